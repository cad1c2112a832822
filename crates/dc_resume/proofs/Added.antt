-- Lines are added to those of earlier parts of a run.
use Rattle.std.proofs.Common.{◌≡◌, ◌∙◌, ℕ, ◌+◌, List, [], ◌∷◌, ◌++◌, Bool, true, false, Option, Some, None, ap, sym, if◌then◌else◌, length, map, append_assoc, slice_get, IsSomeAnd, inl, inr}
use Rattle.std.proofs.lemmas.Bool.{cond_both}
use Rattle.std.proofs.lemmas.List.{append_cancel_right, map-append}
use Rattle.dc_model.specs.Guests.{Event}
use Rattle.dc_model.specs.Guests.Event.{AtEnd, AtInternal, AtClock, AtRandom, AtInput, AtReceive, AtVisible, AtSend}
use Rattle.dc_model.specs.Process.{comes, shown}
use Rattle.dc_model.specs.Runs.{Given}
use Rattle.dc_model.specs.declared.entry.Entry.{Entry}
use Rattle.dc_model.specs.declared.entry.Entry.TheVariants.{Turn, Stop, Power}
use Rattle.dc_model.specs.declared.mark.Mark.{Mark}
use Rattle.dc_model.specs.declared.visible.Visible.{Visible}
use Rattle.dc_recovery.specs.Answers.{is_blocked}
use Rattle.dc_recovery.specs.Core.{Core, Start, stands}
use Rattle.dc_recovery.proofs.Ends.{leads_well}
use Rattle.dc_recovery.proofs.Resuming.{resumed_follow}
use Rattle.dc_recovery.specs.Invariant.{Holds}
use Rattle.dc_recovery.specs.Systems.{IsSound, System}
use Rattle.dc_resume.specs.Parts.{GoesOnWell}
use Rattle.dc_recovery.specs.Turned.{LeadsTo, Runs, RunsOr, Takes, TakesOr, Turned, is_whole}

-- so many lines more
abbrev pub IsMore : List Visible → List Visible → Type 0
IsMore before after = (more : List Visible) × (after ≡ more ++ before)

same_lines : (a b : Core) → b ≡ a → IsMore a.lines b.lines
same_lines a b same = ([], ap (λ (c : Core). c.lines) same)

module _ {Mc : Type 0} (S : System Mc) (c : Core) (m : Mark) (d : Core) where
  taken : (x : Given) (e : Event) → Takes S c x e m d → IsMore c.lines d.lines
  taken x e (w, may, mark, is_d) = let lines : d.lines ≡ (if is_whole w then shown S.guests x.p (stands S.guests c x.p) x.answer ++ c.lines else c.lines) = ap (λ (k : Core). k.lines) is_d in
      cond_both (is_whole w) (shown S.guests x.p (stands S.guests c x.p) x.answer ++ c.lines) c.lines (λ (ls : List Visible). d.lines ≡ ls → IsMore c.lines d.lines)
      (λ _ e. (shown S.guests x.p (stands S.guests c x.p) x.answer, e)) (λ _ e. ([], e)) lines

  taken_or : (b : Bool) (x : Given) (e : Event) → TakesOr b S c x e m d → IsMore c.lines d.lines
  taken_or true x e turned = same_lines c d turned.1
  taken_or false x e turned = taken x e turned

  ran : (x : Given) (e : Event) → Runs S c x e m d → IsMore c.lines d.lines
  ran x AtEnd turned = same_lines c d turned.1
  ran x AtInternal turned = taken_or (is_blocked S c x.p AtInternal) x AtInternal turned
  ran x AtClock turned = taken_or (is_blocked S c x.p AtClock) x AtClock turned
  ran x AtRandom turned = taken_or (is_blocked S c x.p AtRandom) x AtRandom turned
  ran x AtInput turned = taken_or (is_blocked S c x.p AtInput) x AtInput turned
  ran x AtReceive turned = taken_or (is_blocked S c x.p AtReceive) x AtReceive turned
  ran x (AtVisible body) turned = taken_or (is_blocked S c x.p (AtVisible body)) x (AtVisible body) turned
  ran x (AtSend q message) turned = taken_or (is_blocked S c x.p (AtSend q message)) x (AtSend q message) turned

  ran_or : (b : Bool) (x : Given) → RunsOr b S c x m d → IsMore c.lines d.lines
  ran_or true x turned = ran x (comes S.guests (stands S.guests c x.p) x.answer) turned
  ran_or false x (inl (k, mark, is_d)) = ([], ap (λ (y : Core). y.lines) is_d)
  ran_or false x (inr (mark, is_d)) = same_lines c d is_d

  turned_more : (t : ℕ) (entry : Entry) → Turned S t c entry m d → IsMore c.lines d.lines
  turned_more t (Turn turn) turned = ran_or (c.procs turn.p).up _ turned.1
  turned_more t (Stop p) turned = ([], ap (λ (y : Core). y.lines) turned.1)
  turned_more t Power turned = ([], ap (λ (y : Core). y.lines) turned.1)

  entry_more : (t : ℕ) (o : Option Entry) → IsSomeAnd o (λ entry. Turned S t c entry m d) → IsMore c.lines d.lines
  entry_more t None turned = absurd turned
  entry_more t (Some entry) turned = turned_more t entry turned

more_then : (a b c : List Visible) → IsMore a b → IsMore b c → IsMore a c
more_then a b c (xs, first) (ys, then_) = (ys ++ xs, then_ ∙ ap (λ (zs : List Visible). ys ++ zs) first ∙ sym (append_assoc ys xs a))

-- wherever marks lead, the lines of earlier parts stay, and those of this part come behind them
pub added : {Mc : Type 0} (S : System Mc) (schedule : List Entry) (start : Start) (marks : List Mark) (c : Core) → LeadsTo S schedule start marks c → IsMore start.core.lines c.lines
added S schedule start [] c led = same_lines start.core c led
added S schedule start (m ∷ marks) d (c, led, turned) = more_then start.core.lines c.lines d.lines (added S schedule start marks c led)
    (entry_more S c m d (start.entries + length marks) (slice_get schedule (start.entries + length marks)) turned)

-- a line by its process and its number
abbrev named : Visible → ℕ × ℕ
named x = (x.p, x.k)

-- what is promised of them
pub well : {Mc : Type 0} (S : System Mc) (schedule : List Entry) (start : Start) (marks : List Mark) (c : Core) → IsSound S → Holds S schedule start.entries start.core
    → ((q : ℕ) → (start.core.procs q).up ≡ false) → LeadsTo S schedule start marks c → GoesOnWell S schedule start marks c
well S schedule start marks c sound holds down led =
    let promised = leads_well S sound schedule start holds marks c led in
    let more = added S schedule start marks c led in record {
      more = more.0;
      lines_are = more.1;
      promised = promised;
      numbered = append_cancel_right (map named more.0) _ (map named start.core.lines) (sym (map-append named more.0 start.core.lines) ∙ ap (map named) (sym more.1) ∙ promised.numbered);
      recovered = resumed_follow S schedule start down marks c led;
    }
