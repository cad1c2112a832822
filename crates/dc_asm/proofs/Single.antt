-- A program has one list of words, and so one file.
use Rattle.std.proofs.Common.{◌≡◌, ◌∙◌, ℕ, List, [], ◌∷◌, ap, sym, refl}
use Rattle.dc_asm.specs.declared.forms.Meant.{Meant}
use Rattle.dc_asm.specs.declared.forms.Meant.TheVariants.{Instruction, Raw}
use Rattle.dc_asm.specs.Elf.{elf_of}
use Rattle.dc_asm.specs.Forms.{IsWordOf}
use Rattle.dc_asm.specs.Program.{AreWordsOf, IsFileOf}

one_word : (meant : Meant) (v w : ℕ) → IsWordOf meant v → IsWordOf meant w → v ≡ w
one_word (Instruction i) v w first second = second.2 v first.0 first.1
one_word (Raw n) v w first second = first ∙ sym second

same_words : (program : List Meant) (vs ws : List ℕ) → AreWordsOf program vs → AreWordsOf program ws → vs ≡ ws
same_words [] [] [] first second = refl
same_words [] [] (w ∷ ws) first second = absurd second
same_words [] (v ∷ vs) ws first second = absurd first
same_words (meant ∷ program) [] ws first second = absurd first
same_words (meant ∷ program) (v ∷ vs) [] first second = absurd second
same_words (meant ∷ program) (v ∷ vs) (w ∷ ws) first second =
    ap (λ x. x ∷ vs) (one_word meant v w first.0 second.0) ∙ ap (λ xs. w ∷ xs) (same_words program vs ws first.1 second.1)

pub one_file : (program : List Meant) (file other : List ℕ) → IsFileOf program file → IsFileOf program other → file ≡ other
one_file program file other first second = first.is_file ∙ ap elf_of (same_words program first.words second.words first.are_words second.are_words) ∙ sym second.is_file
