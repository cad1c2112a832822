-- A worked store: a guest that loads a number and asks for the clock, saved after that. Its store suits the two acts of its run, so a run may go on from
-- there; with another pc, or after the first act alone, it does not.
use Rattle.std.proofs.Common.{◌≡◌, ◌<◌, ◌≤◌, ℕ, zero, suc, List, [], ◌∷◌, refl, ap, sym, arith, slice_index}
use Rattle.std.proofs.lemmas.Bool.{true≢false}
use Rattle.dc_elf.specs.Images.{Image}
use Rattle.dc_guest.specs.Guest.{Guest}
use Rattle.dc_isa.specs.declared.regs.Regs.{Regs}
use Rattle.dc_kernel.specs.Kernels.{Kernel}
use Rattle.dc_kernel.specs.declared.status.Status.TheVariants.{Running}
use Rattle.dc_links.specs.Links.{link_to, number_of_first, unused}
use Rattle.dc_model.specs.Guests.Answer.{Clock, Plain}
use Rattle.dc_model.specs.Runs.{Given, IsRun, own}
use Rattle.dc_model.specs.declared.entry.Entry.{Entry}
use Rattle.dc_model.specs.declared.entry.Entry.TheVariants.{Turn}
use Rattle.dc_proc.specs.Carried.{system}
use Rattle.dc_proc.specs.Processes.{IsLinkOf, Stored}
use Rattle.dc_protocols.specs.declared.protocol.Protocol.TheVariants.{Cand}
use Rattle.dc_recovery.specs.Invariant.{DrawnBelow, Holds, IsFew, SaveOk}
use Rattle.dc_recovery.specs.Recoveries.{resumed_core}
use Rattle.dc_recovery.specs.Systems.{System}
use Rattle.dc_rv32.specs.Machine.{stepped}
use Rattle.dc_resume.proofs.Resuming.{holds}
use Rattle.dc_resume.specs.Suited.{AreStored, AreSuited, IsSuited, save_in, saves_in}
use Rattle.dc_words.specs.Words.{bytes_in}

-- `addi x17, x0, 4`, `ecall`, and nothing behind them
abbrev pub words : List ℕ
words = 4196499 ∷ 115 ∷ 0 ∷ 0 ∷ 0 ∷ []

abbrev pub image : Image
image = record { memory = bytes_in words; entry = 0 }

-- one process, which commits after each event that could come otherwise
abbrev pub S : System Guest
S = system (image ∷ []) [] Cand

-- it was told that the clock is 5
abbrev pub acts : List Given
acts = record { t = 1; p = 0; answer = Clock 5 } ∷ record { t = 0; p = 0; answer = Plain } ∷ []

-- its registers then: the stack pointer, the clock, and the number of the call
abbrev pub regs_at : ℕ → Regs
regs_at pc = record { x = 0 ∷ 0 ∷ 4 ∷ 0 ∷ 0 ∷ 0 ∷ 0 ∷ 0 ∷ 0 ∷ 0 ∷ 5 ∷ 0 ∷ 0 ∷ 0 ∷ 0 ∷ 0 ∷ 0 ∷ 4 ∷ 0 ∷ 0 ∷ 0 ∷ 0 ∷ 0 ∷ 0 ∷ 0 ∷ 0 ∷ 0 ∷ 0 ∷ 0 ∷ 0 ∷ 0 ∷ 0 ∷ []; pc = pc }

-- its kernel at a position, with this pc
abbrev pub kernel_with : ℕ → ℕ → Kernel
kernel_with position pc = record {
  n = 1;
  p = 0;
  status = Running;
  commit = 2;
  position = position;
  visible = 0;
  inputs_taken = 0;
  regs = regs_at pc;
  received = 0 ∷ [];
  links = unused ∷ [];
}

-- its store stands for that
abbrev pub stores_with : ℕ → ℕ → ℕ → Stored
stores_with position pc p = record { words = words; kernel = kernel_with position pc; log = [] }

abbrev pub stores : ℕ → Stored
stores = stores_with 2 8

-- it is a run
pub run : IsRun S.guests acts
unfolding stepped
run = ((tt, record { fitting = refl; mail = tt }), record { fitting = refl; mail = tt })

save : SaveOk S 0 (own 0 acts) (save_in (stores 0))
unfolding stepped
save = record {
  within = omega arith;
  log_within = omega arith;
  told = refl;
  can_log = tt;
  no_log = λ _. refl;
  few = few;
}
  where
    few : (j : ℕ) → j < 2 → IsFew S 0 (own 0 acts) 2 j
    few zero less s = omega arith
    few (suc zero) less s = omega arith
    few (suc (suc j)) less s = absurd (let off : suc (suc j) < 2 = less in let never : ⊥ = omega (arith, off) in never)

-- what the store stands for suits them
pub suited : IsSuited S acts 0 stores 0
unfolding stepped
suited = record {
  kernel_is = record {
    n_is = refl;
    p_is = refl;
    guest = refl;
    status = refl;
    position = refl;
    visible = refl;
    inputs_taken = refl;
    received = none_received;
    links = none_sent;
  };
  save = save;
  first = none_kept;
  closed = λ joint. absurd (true≢false (sym joint));
  alike = λ global. absurd (true≢false (sym global));
  few = omega arith;
  decided = λ none. record { alone = λ off. refl; together = λ joint. absurd (true≢false (sym joint)) };
}
  where
    none_received : (s : ℕ) → s < 1 → slice_index (0 ∷ []) s ≡ 0
    none_received zero less = refl
    none_received (suc s) less = absurd (let off : suc s < 1 = less in let never : ⊥ = omega (arith, off) in never)

    none_sent : (q : ℕ) → q < 1 → IsLinkOf [] (link_to (unused ∷ []) q)
    none_sent zero less = record { count = refl; kept = refl }
    none_sent (suc q) less = absurd (let off : suc q < 1 = less in let never : ⊥ = omega (arith, off) in never)

    none_kept : (q : ℕ) → q < 1 → number_of_first (link_to (unused ∷ []) q) ≤ 0
    none_kept zero less = omega arith
    none_kept (suc q) less = absurd (let off : suc q < 1 = less in let never : ⊥ = omega (arith, off) in never)

-- with another pc it does not, nor after the first act alone
pub other_pc : IsSuited S acts 0 (stores_with 2 12) 0 → ⊥
unfolding stepped
other_pc is = let e : 8 ≡ 12 = ap (λ (g : Guest). g.machine.pc) is.kernel_is.guest in omega (arith, e)

pub other_position : IsSuited S acts 0 (stores_with 1 8) 0 → ⊥
unfolding stepped
other_position is = let e : 4 ≡ 8 = ap (λ (g : Guest). g.machine.pc) is.kernel_is.guest in omega (arith, e)

-- so the invariant holds with nobody up, and a run goes on from there at turn 2
abbrev pub schedule : List Entry
schedule = Turn (record { p = 0; word = 0; clock = 0 }) ∷ Turn (record { p = 0; word = 0; clock = 5 }) ∷ []

drawn : DrawnBelow 1 schedule 2 acts
drawn = (omega arith, refl, (omega arith, refl, tt))

are_suited : AreSuited S acts 0 stores
are_suited zero less = suited
are_suited (suc p) less = absurd (let off : suc p < 1 = less in let never : ⊥ = omega (arith, off) in never)

stored : AreStored S stores
stored zero less = record {
  n_is = refl;
  p_is = refl;
  process = record {
    few = omega arith;
    one_of = omega arith;
    status_is = tt;
    regs_are = record { count = refl; zero = refl; aligned = refl };
    received_from = refl;
    sent_to = refl;
    none_received = refl;
    none_sent = refl;
  };
  links_are = (record { few = omega arith; sent = omega arith; messages = tt }, tt);
}
stored (suc p) less = absurd (let off : suc p < 1 = less in let never : ⊥ = omega (arith, off) in never)

pub goes_on : Holds S schedule 2 (resumed_core acts [] (saves_in S stores))
unfolding stepped
goes_on = holds (image ∷ []) [] Cand acts 0 stores run stored are_suited schedule 2 [] drawn refl
