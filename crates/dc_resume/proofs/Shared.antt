-- Commits of a part that goes on are numbered as they were.
use Rattle.std.proofs.Common.{◌≡◌, ◌<◌, ◌≤◌, ℕ, List, true, refl, subst, sym, ⊎_elim}
use Rattle.std.proofs.lemmas.Bool.{cases_lt, le-ltb, lt-ltb}
use Rattle.dc_guest.specs.Guest.{Guest}
use Rattle.dc_model.specs.Runs.{Given}
use Rattle.dc_model.specs.declared.visible.Visible.{Visible}
use Rattle.dc_proc.specs.Processes.{Stored}
use Rattle.dc_protocols.specs.Rules.{is_global}
use Rattle.dc_recovery.specs.Core.{first_save}
use Rattle.dc_recovery.specs.Numbers.{AreUpTo, ShareNumbers}
use Rattle.dc_recovery.specs.Recoveries.{resumed_core}
use Rattle.dc_recovery.specs.Saves.{Save}
use Rattle.dc_recovery.specs.Systems.{System}
use Rattle.dc_resume.specs.Suited.{AreSuited, save_in, saves_in}

module _ (S : System Guest) (acts : List Given) (lines : List Visible) (stores : ℕ → Stored) where
  saves : (p : ℕ) (P : Save → Type 0) → (p < S.guests.count → P (save_in (stores p))) → (S.guests.count ≤ p → P (record first_save { number = (stores 0).kernel.commit })) → P (saves_in S stores p)
  saves p P here past = ⊎_elim
      (λ (less : p < S.guests.count). subst P (let same : saves_in S stores p ≡ save_in (stores p) = rw (lt-ltb p S.guests.count less) refl in sym same) (here less))
      (λ (high : S.guests.count ≤ p). subst P (let same : saves_in S stores p ≡ record first_save { number = (stores 0).kernel.commit } = rw (le-ltb p S.guests.count high) refl in sym same) (past high))
      (cases_lt p S.guests.count)

  -- no number is over what was read
  pub resumed_few : (k : ℕ) → 0 < S.guests.count → ((p : ℕ) → p < S.guests.count → (stores p).kernel.commit ≤ k) → AreUpTo k (resumed_core acts lines (saves_in S stores)).procs
  resumed_few k some few p = let here : (saves_in S stores p).number ≤ k = saves p (λ s. s.number ≤ k) (few p) (λ _. few 0 some) in (here, here)

  -- where all commit together they share theirs
  pub resumed_alike : (given : List Given) (d : ℕ) → AreSuited S given d stores → is_global S.protocol ≡ true → ShareNumbers (resumed_core acts lines (saves_in S stores)).procs
  resumed_alike given d are global = (
    (stores 0).kernel.commit,
    (stores 0).kernel.commit,
    λ p. let here : (saves_in S stores p).number ≡ (stores 0).kernel.commit = saves p (λ s. s.number ≡ (stores 0).kernel.commit) (λ less. (are p less).alike global) (λ _. refl) in (here, here),
  )
