-- The text of a journal.
use Rattle.std.specs.Prelude.{ℕ, suc, Bool, true, false, List, [], ◌∷◌, ◌++◌, codes, decimal, if◌then◌else◌, map}
use Rattle.std.specs.List.{flat_map}
use Rattle.dc_words.specs.Texts.{joined}
use Rattle.dc_audit.specs.declared.journal.Deed.{Deed}
use Rattle.dc_audit.specs.declared.journal.Deed.TheVariants.{Chance, Logged, Visible, Sends, Receives}
use Rattle.dc_audit.specs.declared.journal.Line.{Line}
use Rattle.dc_audit.specs.declared.journal.Line.TheVariants.{Does, Commits}

-- the numbers of those that are marked, where the first has this number
abbrev pub members_from : ℕ → List Bool → List ℕ
members_from p [] = []
members_from p (true ∷ marks) = p ∷ members_from (suc p) marks
members_from p (false ∷ marks) = members_from (suc p) marks

-- the numbers of those that are marked, with commas between them
abbrev pub members_text : List Bool → List ℕ
members_text members = joined 44 (map decimal (members_from 0 members))

-- whether a log has what was received
abbrev pub logging_text : Bool → List ℕ
logging_text true = codes "logged"
logging_text false = codes "nd"

-- what a process did
abbrev pub deed_text : Deed → List ℕ
deed_text Chance = codes "nd"
deed_text Logged = codes "logged"
deed_text Visible = codes "visible"
deed_text (Sends q k) = codes "send " ++ decimal q ++ codes " " ++ decimal k
deed_text (Receives s k logged) = codes "receive " ++ decimal s ++ codes " " ++ decimal k ++ codes " " ++ logging_text logged

-- an event of a process, or a commit of some
abbrev pub line_text : Line → List ℕ
line_text (Does p deed) = codes "e " ++ decimal p ++ codes " " ++ deed_text deed ++ 10 ∷ []
line_text (Commits members) = codes "commit " ++ members_text members ++ 10 ∷ []

-- the first line: how many processes there are, and the form
abbrev pub heading_text : ℕ → Bool → List ℕ
heading_text n causal = codes "dc-journal 1 " ++ decimal n ++ (if causal then codes " causal" else codes " plain") ++ 10 ∷ []

-- the heading and the lines
abbrev pub journal_text : ℕ → Bool → List Line → List ℕ
journal_text n causal lines = heading_text n causal ++ flat_map line_text lines

-- with the last line
abbrev pub whole_text : ℕ → Bool → List Line → List ℕ
whole_text n causal lines = journal_text n causal lines ++ codes "end" ++ 10 ∷ []
