-- The command that words were probably meant as, which are no command's.
use Rattle.std.specs.Prelude.{ℕ, List, ◌∷◌, ◌/◌, Bool, ◌&&◌, Option, None, Some, String, chars, codes, if◌then◌else◌, length, nat_le, nat_lt, string_bytes}
use Rattle.std.specs.declared.alloc.Global.{Global}
use Rattle.strsim.specs.Edits.{osa_table}
use Rattle.dc_command.specs.declared.meaning.CommandName.{CommandName}
use Rattle.dc_command.specs.declared.meaning.CommandName.TheVariants as name

-- the word that names a command
abbrev pub name_text : CommandName → List ℕ
name_text name.Run = codes "run"
name_text name.Check = codes "check"
name_text name.Asm = codes "asm"
name_text name.Journal = codes "journal"
name_text name.Audit = codes "audit"
name_text name.Resume = codes "resume"

-- how many characters have to be put in, left out, exchanged, or swapped with the next, to come from one text to another
abbrev pub distance : List ℕ → List ℕ → ℕ
distance from to = (osa_table (chars from) (chars to)).last_row (length (chars to))

-- one text is nearly another: not the same, and no more than a third of its bytes away
abbrev pub is_nearly : List ℕ → List ℕ → Bool
is_nearly from to = nat_lt 0 (distance from to) && nat_le (distance from to) (length from / 3)

-- the command whose name a word nearly is
abbrev pub nearly_of : List ℕ → Option CommandName
nearly_of word = if is_nearly word (codes "run") then Some name.Run
    else (if is_nearly word (codes "check") then Some name.Check
    else (if is_nearly word (codes "asm") then Some name.Asm
    else (if is_nearly word (codes "journal") then Some name.Journal
    else (if is_nearly word (codes "audit") then Some name.Audit
    else (if is_nearly word (codes "resume") then Some name.Resume else None)))))

-- the one that the first word behind the program's name nearly is
abbrev pub meant_of : List (String Global) → Option CommandName
meant_of (program ∷ word ∷ rest) = nearly_of (string_bytes word)
meant_of _ = None
