-- A played process beside a kernel and the words of a memory.
use Rattle.std.proofs.Common.{◌≡◌, ◌∙◌, ◌<◌, ◌≤◌, ◌-◌, ◌+◌, ◌^◌, ℕ, zero, suc, Bool, true, false, List, [], ◌∷◌, Option, None, Some, ap, arith, drop, get_or, if◌then◌else◌, length, refl, slice_get, slice_index, sym, take}
use Rattle.std.proofs.lemmas.Bool.{eq-eqb, eqb-true}
use Rattle.std.proofs.lemmas.List.{take_all}
use Rattle.dc_calls.specs.declared.call.Call.TheVariants as call
use Rattle.dc_elf.specs.Images.{Image}
use Rattle.dc_events.specs.declared.event.Next.{Next}
use Rattle.dc_events.specs.declared.event.Next.TheVariants as next
use Rattle.dc_guest.specs.Guest.{Guest, after_answer, guests_of, next_of, started}
use Rattle.dc_isa.specs.declared.regs.Regs.{Regs}
use Rattle.dc_kernel.specs.Kernels.{Kernel}
use Rattle.dc_kernel.specs.declared.status.Status.{Status}
use Rattle.dc_kernel.specs.declared.status.Status.TheVariants.{Running, Exited, Trapped}
use Rattle.dc_links.specs.Links.{Link, link_to}
use Rattle.dc_model.specs.Guests.{Answer}
use Rattle.dc_model.specs.Process.{Local, local}
use Rattle.dc_proc.specs.Processes.{IsKernelAt, IsLinkOf, ended_by, has_ended}
use Rattle.dc_plain.specs.Playing.{ending_of}
use Rattle.dc_rv32.specs.Machine.{Machine, machine_of}
use Rattle.dc_words.proofs.Bytes.{all_below, words_again}
use Rattle.dc_words.specs.Words.{bytes_in, words_in}
use Rattle.dc_retrace.specs.Read.{ends_so}

-- how a guest ended, by what it did last
by_end : (b : Bool) (n : Next) (s : Status) → ends_so (if b then Some n else None) s ≡ true → (b ≡ has_ended s) × (s ≡ (if b then ended_by n else Running))
by_end false n Running is = (refl, refl)
by_end false n (Exited said) is = absurd (let off : ⊥ = cc in off)
by_end false n (Trapped said) is = absurd (let off : ⊥ = cc in off)
by_end true next.Retire s is = absurd (let off : ⊥ = cc in off)
by_end true (next.Trap cause) Running is = absurd (let off : ⊥ = cc in off)
by_end true (next.Trap cause) (Exited said) is = absurd (let off : ⊥ = cc in off)
by_end true (next.Trap cause) (Trapped said) is = (refl, ap Trapped (sym (eqb-true cause said is)))
by_end true (next.Call (call.Exit code)) Running is = absurd (let off : ⊥ = cc in off)
by_end true (next.Call (call.Exit code)) (Exited said) is = (refl, ap Exited (sym (eqb-true code said is)))
by_end true (next.Call (call.Exit code)) (Trapped said) is = absurd (let off : ⊥ = cc in off)
by_end true (next.Call (call.Output from count)) s is = absurd (let off : ⊥ = cc in off)
by_end true (next.Call (call.Input to room)) s is = absurd (let off : ⊥ = cc in off)
by_end true (next.Call call.Clock) s is = absurd (let off : ⊥ = cc in off)
by_end true (next.Call call.Random) s is = absurd (let off : ⊥ = cc in off)
by_end true (next.Call (call.Send q from count)) s is = absurd (let off : ⊥ = cc in off)
by_end true (next.Call (call.Receive to room)) s is = absurd (let off : ⊥ = cc in off)
by_end true (next.Call call.Number) s is = absurd (let off : ⊥ = cc in off)
by_end true (next.Call call.BadArgument) s is = absurd (let off : ⊥ = cc in off)
by_end true (next.Call call.Unknown) s is = absurd (let off : ⊥ = cc in off)

running_not : (s : Status) → true ≡ has_ended s → s ≡ Running → ⊥
running_not s on is = let e : true ≡ false = on ∙ ap has_ended is in let off : ⊥ = cc in off

end_by : (b : Bool) (n : Next) (s : Status) → b ≡ has_ended s → s ≡ (if b then ended_by n else Running) → ends_so (if b then Some n else None) s ≡ true
end_by false n s on is = ap (ends_so None) is
end_by true next.Retire s on is = absurd (running_not s on is)
end_by true (next.Trap cause) s on is = ap (ends_so (Some (next.Trap cause))) is ∙ eq-eqb cause cause refl
end_by true (next.Call (call.Exit code)) s on is = ap (ends_so (Some (next.Call (call.Exit code)))) is ∙ eq-eqb code code refl
end_by true (next.Call (call.Output from count)) s on is = absurd (running_not s on is)
end_by true (next.Call (call.Input to room)) s on is = absurd (running_not s on is)
end_by true (next.Call call.Clock) s on is = absurd (running_not s on is)
end_by true (next.Call call.Random) s on is = absurd (running_not s on is)
end_by true (next.Call (call.Send q from count)) s on is = absurd (running_not s on is)
end_by true (next.Call (call.Receive to room)) s on is = absurd (running_not s on is)
end_by true (next.Call call.Number) s on is = absurd (running_not s on is)
end_by true (next.Call call.BadArgument) s on is = absurd (running_not s on is)
end_by true (next.Call call.Unknown) s on is = absurd (running_not s on is)

-- a machine by its parts
pub machine_by : (m : Machine) (regs : Regs) (own words : List ℕ) → record { x = m.registers; pc = m.pc } ≡ regs → bytes_in own ≡ m.memory → own ≡ words → m ≡ machine_of regs words
machine_by m regs own words same_regs memory same = λ i. record { registers = (same_regs i).x; pc = (same_regs i).pc; memory = (sym memory ∙ ap bytes_in same) i }

pub regs_by : (m : Machine) (regs : Regs) (words : List ℕ) → m ≡ machine_of regs words → record { x = m.registers; pc = m.pc } ≡ regs
regs_by m regs words is = λ i. record { x = (is i).registers; pc = (is i).pc }

-- words are told by their bytes
pub words_by : (own words : List ℕ) → ((k : ℕ) → k < length own → slice_index own k < 2 ^ 32) → ((k : ℕ) → k < length words → slice_index words k < 2 ^ 32) → bytes_in own ≡ bytes_in words → own ≡ words
words_by own words small small' same = sym (words_again own (all_below (2 ^ 32) own small)) ∙ ap words_in same ∙ words_again words (all_below (2 ^ 32) words small')

module _ (n p : ℕ) (l : Local Guest) (words : List ℕ) (kernel : Kernel) where
  -- a process that is what a kernel and the words of a memory say, by its parts
  pub kernel_by : kernel.n ≡ n → kernel.p ≡ p → l.machine.number ≡ p → l.machine.count ≡ n → l.machine.machine ≡ machine_of kernel.regs words → ends_so (ending_of l.machine) kernel.status ≡ true
      → l.visible ≡ kernel.visible → l.inputs_taken ≡ kernel.inputs_taken → ((s : ℕ) → s < n → slice_index kernel.received s ≡ l.received s) → ((q : ℕ) → q < n → IsLinkOf (l.sent q) (link_to kernel.links q))
      → IsKernelAt n p kernel.position l words kernel
  kernel_by n_is p_is number count machine ended visible inputs received links = let end = by_end l.machine.ended (next_of l.machine) kernel.status ended in record {
    n_is = n_is;
    p_is = p_is;
    guest = λ i. record { number = number i; count = count i; machine = machine i; ended = end.0 i };
    status = end.1;
    position = refl;
    visible = sym visible;
    inputs_taken = sym inputs;
    received = received;
    links = links;
  }

  -- and the other way
  module _ (is : IsKernelAt n p kernel.position l words kernel) where
    pub machine_of_it : l.machine.machine ≡ machine_of kernel.regs words
    machine_of_it = ap (λ (g : Guest). g.machine) is.guest

    pub ended_of_it : ends_so (ending_of l.machine) kernel.status ≡ true
    ended_of_it = end_by l.machine.ended (next_of l.machine) kernel.status (ap (λ (g : Guest). g.ended) is.guest) is.status

-- an item at an index, and the list from there on
get_drop : {A : Type 0} (xs : List A) (k : ℕ) (x : A) → slice_get xs k ≡ Some x → drop k xs ≡ x ∷ drop (suc k) xs
get_drop [] k x is = absurd (let off : ⊥ = cc in off)
get_drop (y ∷ xs) zero x is = let same : y ≡ x = cc in ap (λ z. z ∷ xs) same
get_drop (y ∷ xs) (suc k) x is = get_drop xs k x is

drop_get : {A : Type 0} (xs : List A) (k : ℕ) (x : A) (ys : List A) → drop k xs ≡ x ∷ ys → (slice_get xs k ≡ Some x) × (drop (suc k) xs ≡ ys)
drop_get [] zero x ys is = absurd (let off : ⊥ = cc in off)
drop_get [] (suc k) x ys is = absurd (let off : ⊥ = cc in off)
drop_get (y ∷ xs) zero x ys is = let same : y ≡ x = cc in let more : xs ≡ ys = cc in (ap (λ z. Some z) same, more)
drop_get (y ∷ xs) (suc k) x ys is = drop_get xs k x ys is

-- what is left of what was sent and of what is kept decides
pub record Left (sent : List (List ℕ)) (link : Link) (index : ℕ) (rest : List (List ℕ)) : Type 0 where
  pub is : drop index link.kept ≡ rest → IsLinkOf sent link
  pub only : IsLinkOf sent link → drop index link.kept ≡ rest
  pub long : index + length rest ≡ length link.kept

module _ (sent : List (List ℕ)) (link : Link) where
  pub left_all : link.sent ≡ length sent → length link.kept ≤ link.sent → (rest : List (List ℕ)) → rest ≡ drop (link.sent - length link.kept) sent → length rest ≡ length link.kept → Left sent link 0 rest
  left_all count few rest is long = record {
    is = λ same. record { count = count; kept = same ∙ is };
    only = λ so. so.kept ∙ sym is;
    long = omega (arith, long);
  }

  module _ (index : ℕ) (message : List ℕ) (after rest : List (List ℕ)) (rest_is : rest ≡ message ∷ after) (left : Left sent link index rest) where
    pub left_next : slice_get link.kept index ≡ Some message → Left sent link (index + 1) after
    left_next there = record {
      is = λ same. left.is (get_drop link.kept index message there ∙ ap (λ xs. message ∷ xs) (ap (λ n. drop n link.kept) next_is ∙ same) ∙ sym rest_is);
      only = λ so. sym (ap (λ n. drop n link.kept) next_is) ∙ (drop_get link.kept index message after (left.only so ∙ rest_is)).1;
      long = let l = left.long in let e = ap length rest_is in omega (arith, l, e);
    }
      where
        next_is : suc index ≡ index + 1
        next_is = omega arith

    pub left_there : IsLinkOf sent link → slice_get link.kept index ≡ Some message
    left_there so = (drop_get link.kept index message after (left.only so ∙ rest_is)).0

  drop_all : (xs : List (List ℕ)) → drop (length xs) xs ≡ []
  drop_all [] = refl
  drop_all (x ∷ xs) = drop_all xs

  pub left_none : (index : ℕ) (rest : List (List ℕ)) → rest ≡ [] → Left sent link index rest → IsLinkOf sent link
  left_none index rest none left = left.is (ap (λ n. drop n link.kept) (let l = left.long in let e = ap length none in omega (arith, l, e)) ∙ drop_all link.kept ∙ sym none)

-- the number of a guest, and how many there are, stay
started_is : (p n : ℕ) (o : Option Image) → ((started p n o).number ≡ p) × ((started p n o).count ≡ n)
started_is p n None = (refl, refl)
started_is p n (Some image) = (refl, refl)

after_is : (g : Guest) (a : Answer) → ((after_answer g a).number ≡ g.number) × ((after_answer g a).count ≡ g.count)
after_is g a = by g.ended refl
  where
    by : (b : Bool) → g.ended ≡ b → ((after_answer g a).number ≡ g.number) × ((after_answer g a).count ≡ g.count)
    by true e = rw e (refl, refl)
    by false e = rw e (refl, refl)

pub numbered : (images : List Image) (inputs : List (List (List ℕ))) (p : ℕ) (answers : List Answer)
    → ((local (guests_of images inputs) p answers).machine.number ≡ p) × ((local (guests_of images inputs) p answers).machine.count ≡ length images)
numbered images inputs p [] = started_is p (length images) (slice_get images p)
numbered images inputs p (a ∷ answers) = let before = numbered images inputs p answers in let one = after_is (local (guests_of images inputs) p answers).machine a in (one.0 ∙ before.0, one.1 ∙ before.1)

-- the first of some items, and those behind it
pub front_and_rest : {A : Type 0} (xs : List A) (d : A) → 1 ≤ length xs → xs ≡ get_or xs 0 d ∷ take (length xs - 1) (drop 1 xs)
front_and_rest [] d some = absurd (let off : ⊥ = omega (arith, some) in off)
front_and_rest (x ∷ xs) d some = ap (λ ys. x ∷ ys) (sym (take_all (suc (length xs) - 1) xs (omega arith)))

pub front_item : {A : Type 0} (xs : List A) (x : A) → 1 ≤ length xs → x ≡ get_or xs 0 x → xs ≡ x ∷ take (length xs - 1) (drop 1 xs)
front_item xs x some is = front_and_rest xs x some ∙ ap (λ y. y ∷ take (length xs - 1) (drop 1 xs)) (sym is)
