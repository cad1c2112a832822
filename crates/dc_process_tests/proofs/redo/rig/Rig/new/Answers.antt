use Rattle.std.proofs.Common.{◌≡◌, ◌∙◌, Bool, false, true, not, refl, sym}
use Rattle.std.proofs.lemmas.Bool.{true≢false}
use Rattle.dc_process_tests.proofs.redo.rig.Rig.new.Goals as goal

unstopped : (stopped : Bool) → not stopped ≡ true → stopped ≡ false
unstopped false e = refl
unstopped true e = sym e

pub returns-in-Ok : goal.returns-in-Ok
returns-in-Ok c = let h = c.in-Ok.ensures.handle in (
  h.lent,
  h.index_is,
  h.size_is ∙ c.in_ok-memory.ensures,
  h.form_is ∙ c.in_ok-text.ensures.form,
  λ e. c.in-Ok.ensures.ready (unstopped c.in-Ok.stopped e),
  λ e. (c.in-Ok.ensures.number (unstopped c.in-Ok.stopped e)).0 ∙ c.in_ok-text.ensures.number,
  λ e. (c.in-Ok.ensures.number (unstopped c.in-Ok.stopped e)).1,
  λ e. absurd (true≢false (sym e)),
  λ e. absurd (true≢false (sym e)),
)
