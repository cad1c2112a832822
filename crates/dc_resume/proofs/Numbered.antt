-- Commits of a run are numbered as long as it goes on.
use Rattle.std.proofs.Common.{◌≡◌, ◌+◌, ◌-◌, ◌*◌, ◌<◌, ◌≤◌, ℕ, suc, List, [], ◌∷◌, true, Option, None, Some, IsSomeAnd, sym, subst, arith, length, slice_get}
use Rattle.std.proofs.lemmas.Bool.{or_left}
use Rattle.dc_limits.specs.declared.bounds.TheConstants.{ENTRIES}
use Rattle.dc_model.specs.declared.entry.Entry.{Entry}
use Rattle.dc_model.specs.declared.mark.Mark.{Mark}
use Rattle.dc_protocols.specs.Rules.{is_causal, is_global}
use Rattle.dc_recovery.proofs.Alike.{turned_alike}
use Rattle.dc_recovery.proofs.Ends.{leads_follow}
use Rattle.dc_recovery.proofs.Numbering.{turned_below}
use Rattle.dc_recovery.proofs.Rows.{global_free}
use Rattle.dc_recovery.specs.Core.{Core, Start, Status}
use Rattle.dc_recovery.specs.Invariant.{Holds}
use Rattle.dc_recovery.specs.Numbers.{AreUpTo, ShareNumbers}
use Rattle.dc_recovery.specs.Systems.{IsSound, System}
use Rattle.dc_recovery.specs.Turned.{LeadsTo, Turned}
use Rattle.dc_resume.specs.Suited.{AreNumbered, number_bound}

up_later : (k m : ℕ) (procs : ℕ → Status) → k ≤ m → AreUpTo k procs → AreUpTo m procs
up_later k m procs less are q = let is = are q in (let a = is.0 in omega (arith, a, less), let b = is.1 in omega (arith, b, less))

module _ {Mc : Type 0} (S : System Mc) (sound : IsSound S) (schedule : List Entry) (start : Start) (begun : Holds S schedule start.entries start.core)
    (few : AreUpTo (1 + 2 * start.entries) start.core.procs) (alike : is_global S.protocol ≡ true → ShareNumbers start.core.procs) where
  -- an entry makes no number more than two over those that were there
  few_next : (t : ℕ) (c d : Core) (m : Mark) (o : Option Entry) → IsSomeAnd o (λ entry. Turned S t c entry m d) → AreUpTo (1 + 2 * t) c.procs → AreUpTo (1 + 2 * suc t) d.procs
  few_next t c d m None turned are = absurd turned
  few_next t c d m (Some entry) turned are = up_later (suc (suc (1 + 2 * t))) (1 + 2 * suc t) d.procs (omega arith) (turned_below S t c (1 + 2 * t) are entry m d turned)

  pub few_led : (marks : List Mark) (c : Core) → LeadsTo S schedule start marks c → AreUpTo (1 + 2 * (start.entries + length marks)) c.procs
  few_led [] c led = subst (λ (k : Core). AreUpTo (1 + 2 * (start.entries + 0)) k.procs) (sym led) (up_later (1 + 2 * start.entries) (1 + 2 * (start.entries + 0)) start.core.procs (omega arith) few)
  few_led (m ∷ marks) d (c, led, turned) =
      up_later (1 + 2 * suc (start.entries + length marks)) (1 + 2 * (start.entries + suc (length marks))) d.procs (omega arith)
      (few_next (start.entries + length marks) c d m (slice_get schedule (start.entries + length marks)) turned (few_led marks c led))

  -- where all commit together the saves of all have the same numbers
  module _ (global : is_global S.protocol ≡ true) where
    alike_next : (t : ℕ) (c d : Core) (m : Mark) (o : Option Entry) → IsSomeAnd o (λ entry. Turned S t c entry m d) → Holds S schedule t c → ShareNumbers c.procs → ShareNumbers d.procs
    alike_next t c d m None turned now are = absurd turned
    alike_next t c d m (Some entry) turned now are = turned_alike S (or_left (is_global S.protocol) (is_causal S.protocol) global) (global_free S.protocol global) schedule t c now are entry m d turned

    alike_led : (marks : List Mark) (c : Core) → LeadsTo S schedule start marks c → ShareNumbers c.procs
    alike_led [] c led = subst (λ (k : Core). ShareNumbers k.procs) (sym led) (alike global)
    alike_led (m ∷ marks) d (c, led, turned) =
        alike_next (start.entries + length marks) c d m (slice_get schedule (start.entries + length marks)) turned (leads_follow S sound schedule start begun marks c led).now (alike_led marks c led)

  pub numbered : (marks : List Mark) (c : Core) → LeadsTo S schedule start marks c → start.entries + length marks < ENTRIES → AreNumbered S.protocol c.procs
  numbered marks c led less = record {
    few = up_later (1 + 2 * (start.entries + length marks)) (number_bound - 1) c.procs (omega (arith, less)) (few_led marks c led);
    alike = λ global. alike_led global marks c led;
  }
