use Rattle.std.proofs.Common.{◌≡◌, ◌∙◌, ◌++◌, ◌-◌, ℕ, List, length, map, take, drop, ap}
use Rattle.std.proofs.lemmas.List.{take_at, take_rest}
use Rattle.std.specs.List.{list_all}
use Rattle.dc_kernel.specs.Faults.{kernel_fault, is_entry}
use Rattle.dc_kernel.specs.Kernels.{Kernel}
use Rattle.dc_kernel.specs.Layout.{entries_at, entries_of, entry_words, parts}
use Rattle.dc_kernel.specs.Readings.{kernel_in, link_in, received_in}
use Rattle.dc_kernel.proofs.Kernels.{IsRight, process_in, read_values, right_from}
use Rattle.dc_kernel.proofs.kernel.Kernel.read.Goals as goal

pub read_entries-requires-clause-entries : goal.read_entries-requires-clause-entries
read_entries-requires-clause-entries c =
    ap (λ m. list_all is_entry (parts m entry_words (take (length c.args.words.now - entries_at) (drop entries_at c.args.words.now)))) (ap length c.deref_mut.ensures.value ∙ c.self.invariant.received_from)
    ∙ ap (λ ws. list_all is_entry (parts c.self.inside.n entry_words ws)) (take_rest c.args.words.now entries_at) ∙ right.entries
  where
    right : IsRight c.self.inside.n c.self.inside.p c.args.words.now
    right = right_from c.self.inside.n c.self.inside.p c.args.words.now (ap (λ (k : Kernel). kernel_fault k.n k.p c.args.words.now) c.self.view_is ∙ c.requires)

-- the values in the entries of words, as they are seen in the vector whose slice was written and in what was lent
entries_seen : {X : Type 0} (f : List ℕ → X) (n m : ℕ) (words : List ℕ) (new : List X) → m ≡ n
    → new ≡ map f (parts m entry_words (take (length words - entries_at) (drop entries_at words))) → new ≡ map f (entries_of n words)
entries_seen f n m words new size is = is ∙ ap (λ k. map f (parts k entry_words (take (length words - entries_at) (drop entries_at words)))) size
    ∙ ap (λ ws. map f (parts n entry_words ws)) (take_rest words entries_at)

held_seen : (len : ℕ) (new old seen : List ℕ) → length new ≡ len → new ≡ seen → take len (new ++ drop (length new) old) ≡ seen
held_seen len new old seen long is = take_at new (drop (length new) old) len long ∙ is

pub invariant_of-self : goal.invariant_of-self
invariant_of-self c = rw (received, links, c.status_in-self-inside.ensures, c.regs_in-self-inside.ensures)
    (process_in c.self.inside.n c.self.inside.p c.args.words.now c.self.invariant.few c.self.invariant.one_of right)
  where
    right : IsRight c.self.inside.n c.self.inside.p c.args.words.now
    right = right_from c.self.inside.n c.self.inside.p c.args.words.now (ap (λ (k : Kernel). kernel_fault k.n k.p c.args.words.now) c.self.view_is ∙ c.requires)

    size : length c.deref_mut.result.now ≡ c.self.inside.n
    size = ap length c.deref_mut.ensures.value ∙ c.self.invariant.received_from

    received : take c.self.inside.received.len (c.read_entries.new.received ++ drop (length c.read_entries.new.received) c.self.inside.received.items)
        ≡ map received_in (entries_of c.self.inside.n c.args.words.now)
    received = held_seen c.self.inside.received.len c.read_entries.new.received c.self.inside.received.items _
        (c.read_entries.auto.received ∙ c.deref_mut.ensures.len) (entries_seen received_in c.self.inside.n _ c.args.words.now _ size c.read_entries.ensures.received)

    links : c.read_entries.new.links ≡ map link_in (entries_of c.self.inside.n c.args.words.now)
    links = entries_seen link_in c.self.inside.n _ c.args.words.now _ size c.read_entries.ensures.links

pub returns : goal.returns
returns c = read_values c.self.inside.n c.self.inside.p c.args.words.now _ _ _ _ c.status_in-self-inside.ensures c.regs_in-self-inside.ensures received
    (entries_seen link_in c.self.inside.n _ c.args.words.now _ size c.read_entries.ensures.links)
    ∙ ap (λ (k : Kernel). kernel_in k.n k.p c.args.words.now) c.self.view_is
  where
    size : length c.deref_mut.result.now ≡ c.self.inside.n
    size = ap length c.deref_mut.ensures.value ∙ c.self.invariant.received_from

    received : take c.self.inside.received.len (c.read_entries.new.received ++ drop (length c.read_entries.new.received) c.self.inside.received.items)
        ≡ map received_in (entries_of c.self.inside.n c.args.words.now)
    received = held_seen c.self.inside.received.len c.read_entries.new.received c.self.inside.received.items _
        (c.read_entries.auto.received ∙ c.deref_mut.ensures.len) (entries_seen received_in c.self.inside.n _ c.args.words.now _ size c.read_entries.ensures.received)
