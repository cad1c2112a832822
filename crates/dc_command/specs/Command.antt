-- The words of a command, by the command line that they are read with.
use Rattle.std.specs.Prelude.{ℕ, List, true, codes, map, Option, None, Some, String, string_bytes, if◌then◌else◌, option_map, option_and_then, bytes_eq}
use Rattle.std.specs.declared.alloc.Global.{Global}
use Rattle.clap.specs.Words.{App, Row, Rule, new_app, new_rule, with_rule, with_subcommand, fault_of, first_of, subcommand_of}
use Rattle.clap.specs.Walk.{is_empty}
use Rattle.dc_command.specs.declared.command.Asked.{Asked as asked'}
use Rattle.dc_command.specs.declared.command.Asked.TheVariants as word
use Rattle.dc_command.specs.declared.command.Halted.{Halted as halted'}
use Rattle.dc_command.specs.declared.command.Ledger.{Ledger}
use Rattle.dc_command.specs.declared.command.Ledger.TheVariants as ledger
use Rattle.dc_command.specs.declared.command.Names.{Names as names'}
use Rattle.dc_command.specs.declared.command.Order.{Order as order'}

-- the names of a plan, of a report and of an output
pub record Names : Type 0 where
  pub plan : List ℕ
  pub report : List ℕ
  pub out : List ℕ

-- the name of a plan, and what its run writes at its end
pub record Order : Type 0 where
  pub plan : List ℕ
  pub ledger : Ledger

-- the names of the plan and of the report of a run that was halted
pub record Halted : Type 0 where
  pub plan : List ℕ
  pub report : List ℕ

-- what the words ask for, by the names of files: to run a plan, to check an output against a report, to assemble a source, to audit a journal, or
-- to go on with a halted run
pub data Asked : Type 0 where
  ToRun : (order : Order) → Asked
  ToCheck : (names : Names) → Asked
  ToAssemble : (source : List ℕ) → Asked
  ToAudit : (journal : List ℕ) → Asked
  ToResume : (names : Halted) → Asked

-- a word that a command needs at its place
abbrev pub positional : List ℕ → Rule
positional name = record (new_rule name) { required = true }

-- a command that needs a word more
abbrev pub with_word : App → List ℕ → App
with_word command word = with_rule command (positional word)

-- one of its commands has to be there
abbrev pub bare_line : App
bare_line = record (new_app (codes "dc")) { top = record (new_app (codes "dc")).top { subcommand_required = true } }

-- `run` and the name of a plan
abbrev pub run_command : App
run_command = with_word (new_app (codes "run")) (codes "plan")

-- `check` and the names of a plan, of a report and of an output
abbrev pub check_command : App
check_command = with_word (with_word (with_word (new_app (codes "check")) (codes "plan")) (codes "report")) (codes "out")

-- `asm` and the name of a source
abbrev pub asm_command : App
asm_command = with_word (new_app (codes "asm")) (codes "source")

-- `journal` and the name of a plan
abbrev pub journal_command : App
journal_command = with_word (new_app (codes "journal")) (codes "plan")

-- `audit` and the name of a journal
abbrev pub audit_command : App
audit_command = with_word (new_app (codes "audit")) (codes "journal")

-- `resume` and the names of a plan and of a report
abbrev pub resume_command : App
resume_command = with_word (with_word (new_app (codes "resume")) (codes "plan")) (codes "report")

-- the program's commands
abbrev pub command_line : App
command_line = with_subcommand (with_subcommand (with_subcommand (with_subcommand (with_subcommand (with_subcommand bare_line run_command.top) check_command.top) asm_command.top) journal_command.top) audit_command.top) resume_command.top

-- the names of a check, where all three are there
abbrev pub names_by : Option (List ℕ) → Option (List ℕ) → Option (List ℕ) → Option Asked
names_by (Some plan) (Some report) (Some out) = Some (ToCheck (record { plan = plan; report = report; out = out }))
names_by _ _ _ = None

-- the names of a halted run, where both are there
abbrev pub halted_by : Option (List ℕ) → Option (List ℕ) → Option Asked
halted_by (Some plan) (Some report) = Some (ToResume (record { plan = plan; report = report }))
halted_by _ _ = None

-- to run the plan of this name, and write that at its end
abbrev pub to_run : Ledger → List ℕ → Asked
to_run ledger plan = ToRun (record { plan = plan; ledger = ledger })

-- what the rows of a command of this name ask for
abbrev pub met_by : List ℕ → List Row → Option Asked
met_by name rows = if bytes_eq name (codes "asm") then option_map ToAssemble (first_of (codes "source") rows)
    else (if bytes_eq name (codes "check") then names_by (first_of (codes "plan") rows) (first_of (codes "report") rows) (first_of (codes "out") rows)
    else (if bytes_eq name (codes "journal") then option_map (to_run ledger.Journal) (first_of (codes "plan") rows)
    else (if bytes_eq name (codes "audit") then option_map ToAudit (first_of (codes "journal") rows)
    else (if bytes_eq name (codes "resume") then halted_by (first_of (codes "plan") rows) (first_of (codes "report") rows)
    else option_map (to_run ledger.Report) (first_of (codes "plan") rows)))))

-- what the rows of a command ask for
abbrev pub met : Option (List ℕ × List Row) → Option Asked
met rows = option_and_then (λ command. met_by command.0 command.1) rows

-- what texts of words ask for
abbrev pub asked_by : List (List ℕ) → Option Asked
asked_by words = if is_empty (fault_of command_line words) then met (subcommand_of command_line words) else None

-- what the words ask for; nothing where the command line refuses them, asking for help included
abbrev pub asked_of : List (String Global) → Option Asked
asked_of words = asked_by (map string_bytes words)

-- names as the code holds them
abbrev pub names_view : names' → Names
names_view names = record { plan = names.plan.now; report = names.report.now; out = names.out.now }

-- the names of a halted run as the code holds them
abbrev pub halted_view : halted' → Halted
halted_view names = record { plan = names.plan.now; report = names.report.now }

-- an order as the code holds it
abbrev pub order_view : order' → Order
order_view order = record { plan = order.plan.now; ledger = order.ledger }

-- as the code holds it
abbrev pub asked_view : asked' → Asked
asked_view (word.Run order) = ToRun (order_view order)
asked_view (word.Check names) = ToCheck (names_view names)
asked_view (word.Assemble source) = ToAssemble source.now
asked_view (word.Audit journal) = ToAudit journal.now
asked_view (word.Resume names) = ToResume (halted_view names)
