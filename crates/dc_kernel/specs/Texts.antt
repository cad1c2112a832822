-- The one text of a kernel.
use Rattle.std.specs.Prelude.{ℕ, ◌-◌, ◌*◌, List, [], ◌∷◌, ◌++◌, length, drop, replicate}
use Rattle.std.specs.List.{flat_map}
use Rattle.dc_links.specs.Links.{Link}
use Rattle.dc_links.specs.Message.{padded}
use Rattle.dc_words.specs.Words.{words_in}
use Rattle.dc_kernel.specs.Kernels.{Kernel}
use Rattle.dc_kernel.specs.Layout.{version, slot_count, slot_words}
use Rattle.dc_kernel.specs.declared.status.Status.{Status}
use Rattle.dc_kernel.specs.declared.status.Status.TheVariants.{Running, Exited, Trapped}

-- how a process stands, as a word: 0 running, 1 exited, 2 trapped
abbrev pub status_word : Status → ℕ
status_word Running = 0
status_word (Exited code) = 1
status_word (Trapped cause) = 2

-- the code of an exit or the cause of a trap, else 0
abbrev pub status_code : Status → ℕ
status_code Running = 0
status_code (Exited code) = code
status_code (Trapped cause) = cause

-- a message in its slot: its length, and its bytes with the zeros after them
abbrev pub slot_text : List ℕ → List ℕ
slot_text message = length message ∷ words_in (padded message)

-- the kept messages, the oldest first, and zeros in the slots that are left
abbrev pub slots_text : List (List ℕ) → List ℕ
slots_text kept = flat_map slot_text kept ++ replicate (slot_words * (slot_count - length kept)) 0

-- the entry of a process
abbrev pub entry_text : ℕ → Link → List ℕ
entry_text received link = received ∷ link.sent ∷ length link.kept ∷ slots_text link.kept

-- the entries of all processes, from process 0 on
abbrev pub entries_text : List ℕ → List Link → List ℕ
entries_text (received ∷ others) (link ∷ links) = entry_text received link ++ entries_text others links
entries_text _ _ = []

-- the words before the registers
abbrev pub header_text : Kernel → List ℕ
header_text k = version ∷ k.n ∷ k.p ∷ status_word k.status ∷ status_code k.status ∷ k.commit ∷ k.position ∷ k.visible ∷ k.inputs_taken ∷ k.regs.pc ∷ []

-- the text: the header, x1 to x31, and the entries
unfoldable pub text_of : Kernel → List ℕ
text_of k = header_text k ++ drop 1 k.regs.x ++ entries_text k.received k.links
