use Rattle.std.proofs.Common.{◌≡◌, ◌∙◌, ℕ, List, [], Some, rules, ap, replicate, slice_get, slice_index}
use Rattle.dc_elf.specs.Loaded.{seen_image}
use Rattle.dc_guest.specs.Guest.{started}
use Rattle.dc_words.specs.Lists.{items_of}
use Rattle.dc_plain.proofs.Lists.{zeros_read}
use Rattle.dc_plain.proofs.process.Process.new.Goals as goal

pub returns-clause-begun : goal.returns-clause-begun
returns-clause-begun c =
    let machine : c.new.result ≡ started c.args.p c.args.count (Some (seen_image c.args.image.now)) =
    c.new.ensures ∙ ap (λ (bytes : List ℕ). started c.args.p c.args.count (Some (record { memory = bytes; entry = c.args.image.now.entry }))) (c.in_ok-words.ensures.words ∙ c.deref.ensures.value) in
    let zeros : c.in_ok-vec.field-0.items ≡ replicate c.args.count 0 = search rules in
    let received : (s : ℕ) → slice_index c.in_ok-vec.field-0.items s ≡ 0 = λ s. ap (λ (xs : List ℕ). slice_index xs s) zeros ∙ zeros_read c.args.count s in
    let sent : (q : ℕ) → items_of (slice_get c.in_ok-empty_lists.field-0.items q) ≡ [] = c.in_ok-empty_lists.ensures.empty in
    λ i. record { machine = machine i; inputs_taken = 0; received = λ s. received s i; sent = λ q. sent q i; visible = 0 }
