use Rattle.std.proofs.Common.{◌≡◌, ◌∙◌, ◌≤◌, ◌++◌, ◌-◌, length, drop, ap, arith, length-drop, refl, slice_index, subst}
use Rattle.std.proofs.lemmas.List.{take_all}
use Rattle.dc_kernel.specs.Faults.{kernel_fault}
use Rattle.dc_kernel.specs.Kernels.{IsKernel, Kernel}
use Rattle.dc_kernel.specs.Layout.{commit_at, entries_at, register_count}
use Rattle.dc_kernel.specs.Texts.{entries_text, header_text, text_of}
use Rattle.dc_kernel.proofs.Kernels.{none_from, text_right}
use Rattle.dc_kernel.proofs.Written.{text_written}
use Rattle.dc_kernel.proofs.kernel.Kernel.encode.Goals as goal

pub returns-clause-text : goal.returns-clause-text
unfolding text_of
returns-clause-text c =
    text_written c.args.to.now c.copy_from_slice.new.self c.copy_from_slice-2.new.self c.write_entries.new.entries long
    (ap length c.copy_from_slice.ensures.after ∙ ap length c.header.ensures) registers_long
    ∙ ap (λ xs. (xs ++ c.copy_from_slice-2.new.self) ++ c.write_entries.new.entries) (c.copy_from_slice.ensures.after ∙ c.header.ensures)
    ∙ ap (λ xs. (header_text c.args.self.now ++ xs) ++ c.write_entries.new.entries) registers
    ∙ ap (λ xs. (header_text c.args.self.now ++ drop 1 c.args.self.now.regs.x) ++ xs) entries
  where
    long : entries_at ≤ length c.args.to.now
    long = omega (arith, c.requires)

    all_left : length (drop 1 c.self.inside.regs.x) ≡ register_count
    all_left = length-drop 1 c.self.inside.regs.x ∙ (let left : length c.self.inside.regs.x - 1 ≡ register_count = omega (arith, c.self.invariant.regs_are.count) in left)

    copied : c.copy_from_slice-2.new.self ≡ drop 1 c.self.inside.regs.x
    copied = c.copy_from_slice-2.ensures.after ∙ take_all register_count (drop 1 c.self.inside.regs.x) (omega (arith, all_left))

    registers : c.copy_from_slice-2.new.self ≡ drop 1 c.args.self.now.regs.x
    registers = copied ∙ ap (λ (k : Kernel). drop 1 k.regs.x) c.self.view_is

    registers_long : length c.copy_from_slice-2.new.self ≡ register_count
    registers_long = ap length copied ∙ all_left

    entries : c.write_entries.new.entries ≡ entries_text c.args.self.now.received c.args.self.now.links
    entries = c.write_entries.ensures.text ∙ ap (λ xs. entries_text xs c.self.inside.links) c.deref.ensures.value
        ∙ ap (λ (k : Kernel). entries_text k.received k.links) c.self.view_is

pub returns-clause-commit : goal.returns-clause-commit
unfolding text_of
returns-clause-commit c = ap (λ xs. slice_index xs commit_at) (returns-clause-text c)

pub returns-clause-faultless : goal.returns-clause-faultless
returns-clause-faultless c = ap (kernel_fault c.args.self.now.n c.args.self.now.p) (returns-clause-text c)
    ∙ none_from c.args.self.now.n c.args.self.now.p (text_of c.args.self.now) (text_right c.args.self.now.n c.args.self.now.p c.args.self.now kernel)
  where
    kernel : IsKernel c.args.self.now.n c.args.self.now.p c.args.self.now
    kernel = let P : Kernel → Type 0 = λ k. IsKernel k.n k.p k in
        subst P c.self.view_is (record { n_is = refl; p_is = refl; process = c.self.invariant; links_are = c.write_entries.ensures.links })
