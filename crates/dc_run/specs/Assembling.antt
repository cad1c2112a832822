-- What assembling a source comes to, by the told files.
use Rattle.std.specs.Prelude.{◌≡◌, ◌<◌, ◌⊎◌, ℕ, true, List, [], ◌++◌, length, take, Option, Result, Ok, Err, Vec}
use Rattle.std.specs.declared.alloc.Global.{Global}
use Rattle.dc_asm.specs.Program.{IsFileOf, program_of}
use Rattle.dc_asm.specs.declared.faults.AsmFault.{AsmFault}
use Rattle.dc_asm.specs.declared.forms.Meant.{Meant}
use Rattle.dc_media.specs.Told.{Becomes}
use Rattle.dc_words.specs.Results.{◌>>=◌}
use Rattle.dc_run.specs.Opening.{Files, file_in}
use Rattle.dc_run.specs.Refusals.{as_verdict}
use Rattle.dc_run.specs.Settings.{stands_in}
use Rattle.dc_run.specs.declared.outcome.Outcome.{Outcome}
use Rattle.dc_run.specs.declared.verdict.Did.TheVariants.{Assembled}
use Rattle.dc_run.specs.declared.verdict.Outlet.TheVariants.{Out}
use Rattle.dc_run.specs.declared.verdict.Verdict.{Verdict}
use Rattle.dc_run.specs.declared.verdict.Verdict.TheVariants.{AsmRefused, Done, SinkFault}
use Rattle.dc_run.specs.declared.verdict.Which.TheVariants.{Source}

-- the program, or the source's first faulty line
abbrev pub program_or_fault : Result (List Meant) AsmFault → Result (List Meant) Verdict
program_or_fault (Ok program) = Ok program
program_or_fault (Err fault) = Err (AsmRefused fault)

-- the program of the source of this name, or the refusal that comes first
abbrev pub program_in : Files → List ℕ → Result (List Meant) Verdict
program_in files name = as_verdict (file_in files Source name) >>= (λ text. program_or_fault (program_of text))

-- the file of the told program, or its refusal, where neither want of memory nor a fault of the library takes its place
abbrev pub IsMade : Result (Vec ℕ Global) Verdict → Result (List Meant) Verdict → Type 0
IsMade (Ok file) (Ok program) = IsFileOf program file.items
IsMade (Ok file) (Err refusal) = ⊥
IsMade (Err v) told = (stands_in v ≡ true) ⊎ (told ≡ Err v)

-- a text went to the sink: all of it, or after a fault a part of its front
abbrev pub WritesOut : List ℕ → Verdict → Option (List ℕ) → Option (List ℕ) → Type 0
WritesOut text verdict before after = ((verdict ≡ Done) × Becomes before after (λ x y. y ≡ x ++ text))
    ⊎ ((verdict ≡ SinkFault Out) × ((n : ℕ) × (n < length text) × Becomes before after (λ x y. y ≡ x ++ take n text)))

-- a file's bytes went to the sink; it has no acts, marks or lines
pub record IsWritten (file : List ℕ) (o : Outcome) (before after : Option (List ℕ)) : Type 0 where
  pub did : o.did ≡ Assembled (length file)
  pub acts : o.acts.items ≡ []
  pub marks : o.marks.items ≡ []
  pub lines : o.lines ≡ 0
  pub written : WritesOut file o.verdict before after

-- a program was assembled: its ELF file went to the sink
pub record IsAssembled (program : List Meant) (o : Outcome) (before after : Option (List ℕ)) : Type 0 where
  pub file : List ℕ
  pub is_file : IsFileOf program file
  pub is_written : IsWritten file o before after
