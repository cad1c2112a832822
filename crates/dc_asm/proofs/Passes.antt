-- The words so far, and what is left.
use Rattle.std.proofs.Common.{◌≡◌, ◌∙◌, ◌+◌, ◌++◌, ◌<◌, ◌≤◌, ℕ, suc, List, [], ◌∷◌, Option, None, Some, Result, Ok, Err, ap, sym, subst, refl, arith, length, append_assoc, add-one, IfSome}
use Rattle.std.specs.Option.{option_to_list}
use Rattle.std.proofs.lemmas.List.{append-nil}
use Rattle.std.specs.Prelude.{Vec}
use Rattle.std.specs.declared.alloc.Global.{Global}
use Rattle.dc_words.specs.Texts.{lines_of}
use Rattle.dc_words.proofs.Results.{prefixed}
use Rattle.dc_asm.specs.declared.faults.AsmFault.{AsmFault}
use Rattle.dc_asm.specs.declared.faults.AsmKind.{AsmKind}
use Rattle.dc_asm.specs.declared.forms.Meant.{Meant}
use Rattle.dc_asm.specs.declared.names.Definition.{Definition}
use Rattle.dc_asm.specs.Source.{bare}
use Rattle.dc_asm.specs.Forms.{IsWordOf}
use Rattle.dc_asm.specs.Program.{AreWordsOf, IsFileOf, Makes, count_of, line_meaning, program_from, program_of, with_front}
use Rattle.dc_asm.specs.Names.{definition_in}
use Rattle.dc_asm.specs.Elf.{elf_of}
use Rattle.dc_asm.specs.declared.faults.AsmError.{AsmError}
use Rattle.dc_asm.specs.declared.faults.AsmError.TheVariants as error

-- a program is one of these words, and then what is left
pub record LeftBehind (words : List ℕ) (left told : Result (List Meant) AsmFault) : Type 0 where
  pub front : List Meant
  pub are_words : AreWordsOf front words
  pub rest_decides : told ≡ prefixed front left

none_prefixed : (told : Result (List Meant) AsmFault) → told ≡ prefixed [] told
none_prefixed (Ok others) = refl
none_prefixed (Err fault) = refl

pub nothing_yet : (told : Result (List Meant) AsmFault) → LeftBehind [] told told
nothing_yet told = record { front = []; are_words = tt; rest_decides = none_prefixed told }

-- one word more
pub one_more : (front : List Meant) (words : List ℕ) (meant : Meant) (word : ℕ) → AreWordsOf front words → IsWordOf meant word → AreWordsOf (front ++ meant ∷ []) (words ++ word ∷ [])
one_more [] [] meant word are is = (is, tt)
one_more [] (w ∷ words) meant word are is = absurd are
one_more (m ∷ front) [] meant word are is = absurd are
one_more (m ∷ front) (w ∷ words) meant word are is = (are.0, one_more front words meant word are.1 is)

pub no_more : (front : List Meant) (words : List ℕ) → AreWordsOf front words → AreWordsOf (front ++ []) words
no_more front words are = rw append-nil are

pub still_few : (n : ℕ) (found : Option Meant) → IfSome found (λ _. n < 16000) → n ≤ 16000 → n + count_of found ≤ 16000
still_few n None small few = omega arith
still_few n (Some meant) small few = omega arith

moved : (front : List Meant) (found : Option Meant) (left : Result (List Meant) AsmFault) → prefixed front (with_front found left) ≡ prefixed (front ++ option_to_list found) left
moved front None left = rw append-nil refl
moved front (Some meant) (Ok others) = ap (λ (xs : List Meant). Ok xs) (sym (append_assoc front (meant ∷ []) others))
moved front (Some meant) (Err fault) = refl

module _ (definitions : List ℕ → Option Definition) (number : ℕ) (words line rest after : List ℕ) (told : Result (List Meant) AsmFault) where
  -- a line is read
  pub line_read : (found : Option Meant) (new : List ℕ) → Ok found ≡ line_meaning definitions number (length words) (bare line) → lines_of rest ≡ line ∷ lines_of after
      → ((front : List Meant) → AreWordsOf front words → AreWordsOf (front ++ option_to_list found) new) → length new ≡ length words + count_of found
      → LeftBehind words (program_from definitions number (length words) (lines_of rest)) told
      → LeftBehind new (program_from definitions (number + 1) (length new) (lines_of after)) told
  unfolding program_from
  line_read found new good lines more count so_far = record {
    front = so_far.front ++ option_to_list found;
    are_words = more so_far.front so_far.are_words;
    rest_decides = so_far.rest_decides ∙ ap (λ xs. prefixed so_far.front (program_from definitions number (length words) xs)) lines
        ∙ rw (sym good) (moved so_far.front found (program_from definitions (suc number) (length words + count_of found) (lines_of after)))
        ∙ ap (λ n. prefixed (so_far.front ++ option_to_list found) (program_from definitions n (length words + count_of found) (lines_of after))) (sym (add-one number))
        ∙ ap (λ n. prefixed (so_far.front ++ option_to_list found) (program_from definitions (number + 1) n (lines_of after))) (sym count);
  }

  -- a faulty line
  pub line_faulty : (kind : AsmKind) → Err kind ≡ line_meaning definitions number (length words) (bare line) → lines_of rest ≡ line ∷ lines_of after
      → LeftBehind words (program_from definitions number (length words) (lines_of rest)) told → told ≡ Err (record { line = number; kind = kind })
  unfolding program_from
  line_faulty kind bad lines so_far = so_far.rest_decides ∙ ap (λ xs. prefixed so_far.front (program_from definitions number (length words) xs)) lines ∙ rw (sym bad) refl

-- all is read
pub all_read : (definitions : List ℕ → Option Definition) (number word : ℕ) (words : Vec ℕ Global) (rest : List ℕ) (told : Result (List Meant) AsmFault) → length rest ≡ 0
    → LeftBehind words.items (program_from definitions number word (lines_of rest)) told → Makes AreWordsOf (Ok words) told
unfolding program_from
all_read definitions number word words [] told none so_far = subst (λ r. Makes AreWordsOf (Ok words) r) (sym (so_far.rest_decides ∙ ap (λ (xs : List Meant). Ok xs) (append-nil so_far.front))) so_far.are_words
all_read definitions number word words (c ∷ rest) told none so_far = absurd (omega arith)

-- with the names of the source itself
pub of_source : (source : List ℕ) (definitions : List ℕ → Option Definition) (words : Result (Vec ℕ Global) AsmError) → definitions ≡ definition_in source
    → Makes AreWordsOf words (program_from definitions 1 0 (lines_of source)) → Makes AreWordsOf words (program_of source)
unfolding program_of
of_source source definitions words same told = subst (λ p. Makes AreWordsOf words (program_from p 1 0 (lines_of source))) same told

pub is_filed : (told : Result (List Meant) AsmFault) (words file : Vec ℕ Global) → Makes AreWordsOf (Ok words) told → file.items ≡ elf_of words.items → Makes IsFileOf (Ok file) told
is_filed (Ok program) words file are is = record { words = words.items; are_words = are; is_file = is }
is_filed (Err fault) words file are is = absurd are

pub fails_too : (told : Result (List Meant) AsmFault) (e : AsmError) → Makes AreWordsOf (Err e) told → Makes IsFileOf (Err e) told
fails_too told error.Memory fails = tt
fails_too told (error.Refused fault) fails = fails
