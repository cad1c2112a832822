-- An image of the code as the model has it.
use Rattle.std.specs.Prelude.{◌≡◌, ◌<◌, ◌≤◌, ◌%◌, ◌^◌, length}
use Rattle.dc_elf.specs.Images.{Image}
use Rattle.dc_elf.specs.declared.image.Image as loaded

-- an image by its fields
abbrev pub seen_image : loaded.Image → Image
seen_image image = record { memory = image.memory.items; entry = image.entry }

-- an image in which a guest can begin
abbrev pub CanStart : loaded.Image → Type 0
CanStart image = (16 ≤ length image.memory.items) × (length image.memory.items < 2 ^ 32) × (length image.memory.items % 4 ≡ 0) × (image.entry % 4 ≡ 0)
