-- The names that a source defines.
use Rattle.std.specs.Prelude.{ℕ, suc, ◌+◌, ◌*◌, List, [], ◌∷◌, ◌++◌, Option, None, Some}
use Rattle.std.specs.Map.{lookup}
use Rattle.std.specs.Str.{bytes_eq}
use Rattle.dc_words.specs.Texts.{lines_of}
use Rattle.std.specs.HashMap.{get_by}
use Rattle.dc_asm.specs.declared.names.Definition.{Definition}
use Rattle.dc_asm.specs.declared.names.Names.{Names}
use Rattle.dc_asm.specs.Source.{bare, defined}

-- the definition in a line without its comment, if it is one, of this number and behind so many words
abbrev pub definition : ℕ → ℕ → Option (List ℕ) → List (List ℕ × Definition)
definition line word None = []
definition line word (Some name) = (name, record { line = line; word = word }) ∷ []

-- a line that is neither empty nor a definition stands for a word
abbrev pub words_by : Option (List ℕ) → ℕ
words_by None = 1
words_by (Some name) = 0

-- how many words a line without its comment stands for
unfoldable pub words_in_line : List ℕ → ℕ
words_in_line [] = 0
words_in_line (c ∷ line) = words_by (defined (c ∷ line))

-- the definitions in lines numbered from this one on, behind so many words
unfoldable pub definitions_from : ℕ → ℕ → List (List ℕ) → List (List ℕ × Definition)
definitions_from number word [] = []
definitions_from number word (line ∷ lines) =
    definition number word (defined (bare line)) ++ definitions_from (suc number) (word + words_in_line (bare line)) lines

-- the first of a name's definitions
abbrev pub first_of : List (List ℕ × Definition) → List ℕ → Option Definition
first_of definitions name = lookup (λ key. bytes_eq key name) definitions

-- where a source defines a name
unfoldable pub definition_in : List ℕ → List ℕ → Option Definition
definition_in source name = first_of (definitions_from 1 0 (lines_of source)) name

-- the address of a word
abbrev pub address : ℕ → ℕ
address word = 1024 + 4 * word

-- what a map of names says of one
abbrev pub found : Names → List ℕ → Option Definition
found names name = get_by (λ k. bytes_eq name k.now) names.definitions
