-- What a few halves stand for, computed.
use Rattle.std.proofs.Common.{◌≡◌, ℕ, List, [], ◌∷◌, ◌++◌, take, replicate, refl, Option, None, Some, Ok, Err}
use Rattle.dc_words.specs.Words.{bytes_in}
use Rattle.dc_kernel.specs.declared.records.LogRecord.{LogRecord}
use Rattle.dc_kernel.specs.declared.reply.Reply.TheVariants.{InputNext}
use Rattle.dc_checkpoint.specs.declared.faults.StoreFault.TheVariants as fault
use Rattle.dc_kernel.specs.Faults.{kernel_fault}
use Rattle.dc_checkpoint.specs.States.{Reading, unlogged}
use Rattle.dc_redo.specs.Entries.{entry_in}
use Rattle.dc_redo.specs.Frames.{framed, records_of}
use Rattle.dc_redo.specs.Shapes.{Shape}
use Rattle.dc_redo.specs.Standing.{half_number, half_reading, halves_reading}
use Rattle.dc_redo.specs.Tallies.{next}

-- 16 words of memory, one process: 13 lines, the last of which has 12 words of pad
abbrev sh : Shape
sh = record { size = 16; kernel = 180; event = 21; form = record { n = 1; p = 0 }; first = unlogged [] [] }

-- the text of a kernel that has done nothing, of this commit
abbrev text : ℕ → List ℕ
text n = 1 ∷ 1 ∷ 0 ∷ 0 ∷ 0 ∷ n ∷ replicate 174 0

abbrev whole : ℕ → ℕ → ℕ → Option (List ℕ)
whole kind n w = Some (bytes_in (kind ∷ n ∷ text n ++ replicate 16 w))

-- the memory's line, and the kernel's first
abbrev lines : ℕ → ℕ → ℕ → Option (List ℕ)
lines kind n w = Some (bytes_in (kind ∷ n ∷ 2 ∷ 0 ∷ replicate 16 w ++ 1 ∷ take 16 (text n)))

-- the same the other way round
abbrev wrong : ℕ → ℕ → Option (List ℕ)
wrong n w = Some (bytes_in (5 ∷ n ∷ 2 ∷ 1 ∷ take 16 (text n) ++ 0 ∷ replicate 16 w))

abbrev decision : ℕ → Option (List ℕ)
decision n = Some (bytes_in (3 ∷ n ∷ []))

abbrev event : Option (List ℕ)
event = Some (bytes_in (4 ∷ 10 ∷ 3 ∷ 1 ∷ 0 ∷ 1 ∷ 97 ∷ replicate 15 0))

abbrev state : ℕ → ℕ → List LogRecord → Reading
state n w log = Ok (record { memory = replicate 16 w; kernel = text n; log = log })

abbrev rec : LogRecord
rec = record { position = 10; told = InputNext (97 ∷ []) }

one : half_reading sh 0 (whole 1 1 7 ∷ []) ≡ state 1 7 []
unfolding half_reading entry_in next kernel_fault
one = refl

with_lines : half_reading sh 0 (whole 1 1 7 ∷ lines 5 2 9 ∷ event ∷ []) ≡ state 2 9 (rec ∷ [])
unfolding half_reading entry_in next kernel_fault
with_lines = refl

waiting : half_reading sh 2 (whole 1 1 7 ∷ event ∷ lines 6 3 9 ∷ decision 3 ∷ []) ≡ state 1 7 (rec ∷ [])
unfolding half_reading entry_in next kernel_fault
waiting = refl

decided : half_reading sh 3 (whole 1 1 7 ∷ event ∷ lines 6 3 9 ∷ decision 3 ∷ []) ≡ state 3 9 []
unfolding half_reading entry_in next kernel_fault
decided = refl

its_number : half_number sh (whole 1 1 7 ∷ lines 6 3 9 ∷ decision 3 ∷ []) ≡ 3
unfolding half_reading entry_in next kernel_fault
its_number = refl

-- a second decision, a first state that comes second, lines that fall, a number that does not rise
second : half_reading sh 9 (whole 1 1 7 ∷ decision 3 ∷ decision 4 ∷ []) ≡ Err (fault.Record 2)
unfolding half_reading entry_in next kernel_fault
second = refl

whole_again : half_reading sh 9 (whole 1 1 7 ∷ whole 1 2 7 ∷ []) ≡ Err (fault.Record 1)
unfolding half_reading entry_in next kernel_fault
whole_again = refl

falling : half_reading sh 9 (whole 1 1 7 ∷ wrong 2 9 ∷ []) ≡ Err (fault.Record 1)
unfolding half_reading entry_in next kernel_fault
falling = refl

same_again : half_reading sh 9 (whole 1 3 7 ∷ event ∷ lines 5 3 9 ∷ []) ≡ Err (fault.Record 2)
unfolding half_reading entry_in next kernel_fault
same_again = refl

-- two halves
greater_one : halves_reading sh 0 (whole 1 1 7 ∷ []) (whole 1 2 8 ∷ []) ≡ state 2 8 []
unfolding half_reading entry_in next kernel_fault
greater_one = refl

clash : halves_reading sh 0 (whole 1 1 7 ∷ []) (whole 1 1 8 ∷ []) ≡ Err (fault.Record 0)
unfolding half_reading entry_in next kernel_fault
clash = refl

undecided : halves_reading sh 1 (whole 1 1 7 ∷ []) (whole 2 2 8 ∷ decision 2 ∷ []) ≡ state 1 7 []
unfolding half_reading entry_in next kernel_fault
undecided = refl

none_counts : halves_reading sh 1 [] (whole 2 2 8 ∷ []) ≡ Ok sh.first
unfolding half_reading entry_in next kernel_fault
none_counts = refl

no_state : halves_reading sh 1 (whole 1 1 7 ∷ []) (decision 1 ∷ []) ≡ Err (fault.Record 0)
unfolding half_reading entry_in next kernel_fault
no_state = refl

-- bytes: a record, one that is open with a length that leaves too little, and a gate that is closed
framed_one : records_of (1 ∷ framed (3 ∷ 0 ∷ 0 ∷ 0 ∷ []) ++ replicate 7 0) ≡ Some (3 ∷ 0 ∷ 0 ∷ 0 ∷ []) ∷ []
framed_one = refl

too_long : records_of (1 ∷ framed (3 ∷ 0 ∷ 0 ∷ 0 ∷ []) ++ replicate 6 0) ≡ None ∷ []
too_long = refl

with_closed : records_of (2 ∷ framed (3 ∷ 0 ∷ 0 ∷ 0 ∷ []) ++ replicate 7 0) ≡ []
with_closed = refl
