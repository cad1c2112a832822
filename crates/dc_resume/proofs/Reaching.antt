-- How far a save reaches is within what was done.
use Rattle.std.proofs.Common.{◌≤◌, ◌&&◌, ℕ, Bool, suc, List, [], ◌∷◌, arith, length}
use Rattle.std.proofs.lemmas.Bool.{cond_both}
use Rattle.dc_model.specs.Guests.{Answer, Event, Guests}
use Rattle.dc_model.specs.Process.{comes, local}
use Rattle.dc_recovery.proofs.Cuts.{last_within}
use Rattle.dc_recovery.specs.Saves.{Save, is_empty_log, last_exposed, last_sure, log_end, logged_at, reach, span}
use Rattle.dc_recovery.specs.Systems.{System}

pub sure_within : {Mc : Type 0} (test : Event → Bool) (G : Guests Mc) (p from : ℕ) (ds : List Answer) → last_sure test G p from ds ≤ length ds
sure_within test G p from [] = omega arith
sure_within test G p from (a ∷ ds) =
    cond_both (test (comes G (local G p ds) a) && is_empty_log (span (logged_at ds) from (length ds))) (suc (length ds)) (last_sure test G p from ds) (λ (n : ℕ). n ≤ suc (length ds))
    (λ _. omega arith) (λ _. let k = sure_within test G p from ds in omega arith)

module _ {Mc : Type 0} (S : System Mc) (p : ℕ) (ds : List Answer) where
  pub exposed_within : (from : ℕ) → last_exposed S p ds from ≤ length ds
  exposed_within from = let a = last_within S.exposes S.guests p ds in let b = sure_within S.exposes_sure S.guests p from ds in omega arith

  pub reach_within : (s : Save) → s.position ≤ length ds → log_end s.log ≤ length ds → reach S p ds s ≤ length ds
  reach_within s a b = let c = exposed_within s.position in omega arith
