-- What a run leaves on recoverable memory.
use Rattle.std.specs.Prelude.{◌≡◌, ◌<◌, ◌*◌, ℕ, Some, length, slice_get}
use Rattle.dc_elf.specs.Images.{Image as Seen}
use Rattle.dc_media.specs.declared.keeps.Keeps as keeps
use Rattle.dc_processes.specs.Worlds.{StoresStand}
use Rattle.dc_protocols.specs.Rules.{is_joint}
use Rattle.dc_recovery.specs.Core.{Core}
use Rattle.dc_vista.specs.Parts.{parts, segment_words}
use Rattle.dc_vista.specs.Standing.{Numbers, Shape, StandsFor}
use Rattle.dc_together.specs.Joints.{whose}
use Rattle.dc_processes.specs.Stages.{decided_by}
use Rattle.dc_world.specs.Opened.{first_state}
use Rattle.dc_course.specs.Headline.{Setting, system_in}

-- what the segment of process p of n was made for, which began with this image
pub record IsSegmentFor (n p : ℕ) (image : Seen) (shape : Shape) : Type 0 where
  pub form_is : shape.form ≡ whose n p
  pub sized : length image.memory ≡ 4 * shape.size
  pub first_is : shape.first ≡ first_state n p image

-- the segments that a run leaves: that of each process is what the segment of that one is made for, has the words of its device, and stands for one of the core's
-- saves
pub record SegmentsLeft {S : Type 0} (words : keeps.Ghosts S) (setting : Setting) (core : Core) (dev : S) : Type 0 where
  pub shape : ℕ → Shape
  pub shape_is : (p : ℕ) (image : Seen) → slice_get setting.images p ≡ Some image → IsSegmentFor (length setting.images) p image (shape p)
  pub long : (p : ℕ) → p < length setting.images → words.extent dev p ≡ segment_words (shape p).lines
  pub stand : StoresStand (system_in setting) core (decided_by (is_joint setting.protocol) (λ d. Numbers (parts (shape 0).lines (words.told dev 0)) d))
      (λ p d r. (p < length setting.images) × StandsFor (shape p) (parts (shape p).lines (words.told dev p)) d r)
