-- Handles over redo logs, by the shapes of these.
use Rattle.std.proofs.Common.{◌≡◌, ◌∙◌, ℕ, ap, arith}
use Rattle.dc_checkpoint.specs.States.{Reading}
use Rattle.dc_checkpoint.specs.declared.checkpoint.Checkpoint as checkpoint
use Rattle.dc_elf.specs.Images.{Image}
use Rattle.dc_kernel.specs.Layout.{kernel_words}
use Rattle.dc_kernel.specs.Records.{record_words}
use Rattle.dc_media.specs.declared.disks.Disks as disks
use Rattle.dc_redo.specs.Handles.{IsSteady}
use Rattle.dc_redo.specs.Shapes.{Shape}
use Rattle.dc_redo.specs.Standing.{Numbers, StandsFor}
use Rattle.dc_together.proofs.Fitting.{own_form}
use Rattle.dc_together.specs.Joints.{whose}
use Rattle.dc_world.specs.Opened.{IsOver}
use Rattle.dc_disk.specs.Logs.{log_for}

-- handles whose shapes and whose device say what they stand for
pub record IsLogged {S C D : Type 0} (disk : disks.Ghosts S) (g : checkpoint.Ghosts C D) (f : D → S) (shape_at : C → Shape) : Type 0 where
  pub sizes : (c : C) → (shape_at c).size ≡ g.size c
  pub forms : (c : C) → (shape_at c).form ≡ g.form c
  pub kernels : (c : C) → (shape_at c).kernel ≡ kernel_words (g.form c).n
  pub events : (c : C) → (shape_at c).event ≡ record_words
  pub firsts : (c : C) → (shape_at c).first ≡ g.first c
  pub leaves_to : (c : C) (x : D) (d : ℕ) (r : Reading) → StandsFor (shape_at c) (disk.told (f x) (g.index c)) d r → g.leaves c x d r
  pub leaves_from : (c : C) (x : D) (d : ℕ) (r : Reading) → g.leaves c x d r → StandsFor (shape_at c) (disk.told (f x) (g.index c)) d r
  pub numbers_to : (c : C) (x : D) (d : ℕ) → Numbers (shape_at c) (disk.told (f x) (g.index c)) d → g.numbers c x d
  pub numbers_from : (c : C) (x : D) (d : ℕ) → g.numbers c x d → Numbers (shape_at c) (disk.told (f x) (g.index c)) d
  pub steady_to : (c : C) (x : D) → IsSteady (shape_at c) (disk.told (f x) (g.index c)) → g.floor c ≡ 0 → g.steady c x
  pub steady_from : (c : C) (x : D) → g.steady c x → IsSteady (shape_at c) (disk.told (f x) (g.index c))

-- the shape of a handle is what the log of its process is made for
pub shape_for : {S C D : Type 0} {disk : disks.Ghosts S} {g : checkpoint.Ghosts C D} {f : D → S} {shape_at : C → Shape} → IsLogged disk g f shape_at → (n p : ℕ) (image : Image) (c : C) → IsOver g n p image c → shape_at c ≡ log_for n p image
shape_for {g = g} {shape_at = shape_at} is n p image c over = λ i. record { size = size i; kernel = kernel i; event = is.events c i; form = (is.forms c ∙ form_is) i; first = (is.firsts c ∙ over.first_is) i }
  where
    form_is : g.form c ≡ whose n p
    form_is = own_form g n p c over.belongs

    size : (shape_at c).size ≡ (log_for n p image).size
    size = let s = is.sizes c in let l = over.sized in omega (arith, s, l)

    kernel : (shape_at c).kernel ≡ kernel_words n
    kernel = is.kernels c ∙ ap kernel_words over.belongs.form_n
