-- What passes, both ways.
use Rattle.std.proofs.Common.{◌≡◌, ◌↔◌, ℕ, List, Option, Some, None, Result, Ok, Err, sym, refl, length}
use Rattle.dc_acts.specs.Lines.{text_of}
use Rattle.dc_model.specs.Guests.{Guests}
use Rattle.dc_model.specs.FailureFree.{FailureFree}
use Rattle.dc_model.specs.declared.act.Taken.{Taken}
use Rattle.dc_model.specs.declared.entry.Entry.{Entry}
use Rattle.dc_words.specs.Texts.{ended, lines_of}
use Rattle.dc_check.specs.Differences.{Difference, difference_of}
use Rattle.dc_check.specs.Findings.{IsPassing, compared, finding_by, finding_of}
use Rattle.dc_check.specs.Findings.Finding.{Passes}
use Rattle.dc_check.specs.Played.{played}
use Rattle.dc_check.proofs.Drawing.{drawn_when_played, played_when_drawn}
use Rattle.dc_check.proofs.Meaning.{passes_exactly}

module _ {Mc : Type 0} (G : Guests Mc) (schedule : List Entry) (acts : List Taken) (out : List ℕ) (whole : out ≡ ended (lines_of out)) (visibles : ℕ) where
  by_difference : (w : FailureFree Mc) → played G schedule acts ≡ Ok w → (d : Option Difference) → difference_of (text_of w.visibles) out ≡ d → compared (length w.visibles) d ≡ Passes visibles → IsPassing G schedule acts out visibles
  by_difference w at (Some d) is e = absurd (let never : ⊥ = cc in never)
  by_difference w at None is e = let led = drawn_when_played G schedule acts w at in record {
    world = w;
    drawn = led.0;
    ran = led.1;
    lines = (passes_exactly (text_of w.visibles) out whole).0 is;
    count = let same : length w.visibles ≡ visibles = cc in sym same;
  }

  by_played : (r : Result (FailureFree Mc) ℕ) → played G schedule acts ≡ r → finding_by r out ≡ Passes visibles → IsPassing G schedule acts out visibles
  by_played (Err position) at e = absurd (let never : ⊥ = cc in never)
  by_played (Ok w) at e = by_difference w at (difference_of (text_of w.visibles) out) refl e

  pub passing_is : (finding_of G schedule acts out ≡ Passes visibles) ↔ IsPassing G schedule acts out visibles
  passing_is = (
    λ e. by_played (played G schedule acts) refl e,
    λ is. rw (played_when_drawn G schedule acts is.world is.drawn is.ran, (passes_exactly (text_of is.world.visibles) out whole).1 is.lines, is.count) refl,
  )
