use Rattle.std.proofs.Common.{◌≡◌, ◌∙◌, ◌+◌, ℕ, List, Err, ap, refl, sym, length, rules}
use Rattle.dc_kernel.specs.Faults.{kernel_fault}
use Rattle.dc_kernel.specs.Texts.{text_of}
use Rattle.dc_checkpoint.specs.declared.faults.StoreFault.TheVariants as store_fault
use Rattle.dc_checkpoint.specs.States.{IsText, number_in}
use Rattle.dc_redo.specs.Codes.{seen}
use Rattle.dc_redo.specs.Handles.{shape_of}
use Rattle.dc_redo.specs.Shapes.{half_bytes}
use Rattle.dc_redo.specs.Standing.{text_in}
use Rattle.dc_redo.proofs.Looping.{seen_going}
use Rattle.dc_redo.proofs.Recovered.{number_text}
use Rattle.dc_redo.proofs.Upping.{breaks_refuses, front_begins, kernel_refuses, least_both, settles_none, settles_waits, with_same}
use Rattle.dc_redo.proofs.frame.Frame.take_up.Goals as goal

pub returns-in-Breaks-clause-refused : goal.returns-in-Breaks-clause-refused
returns-in-Breaks-clause-refused c fault is =
    let sh = shape_of c.args.self.now in
    let d = c.args.d in
    let bytes = c.args.half.now in
    let t = c.collect-end.result.0 in
    let result = c.collect-end.result.1 in
    let got = c.collect-end.ensures.collected in
    let col = got.1 in
    let ends = got.2 in
    let going = seen_going t c.collect-end.ensures.some in
    let same : store_fault.Record t.count ≡ fault = cc in
    breaks_refuses sh d col.front bytes (seen t) col.contents got.0 col.taken col.contents_is going result ends c.in-Breaks.is ∙ ap Err same

pub returns-then-not-give-clause-refused : goal.returns-then-not-give-clause-refused
returns-then-not-give-clause-refused c fault is =
    let sh = shape_of c.args.self.now in
    let d = c.args.d in
    let bytes = c.args.half.now in
    let t = c.collect-end.result.0 in
    let result = c.collect-end.result.1 in
    let got = c.collect-end.ensures.collected in
    let col = got.1 in
    let ends = got.2 in
    let going = seen_going t c.collect-end.ensures.some in
    let held = col.held c.collect-end.ensures.some in
    let v = c.args.marks.now.body in
    let many : v.len ≡ length v.items = search rules in
    let body_is : c.deref.result.now ≡ col.contents.body = c.deref.ensures.value ∙ with_same v.len c.collect-end.new.body v.items (c.collect-end.ensures.long.1 ∙ ap length c.deref_mut.ensures.value) many ∙ held.0 in
    let same : store_fault.Kernel ≡ fault = cc in
    let wrong = c.give.ensures.wrong c.if-not-give.true in
    kernel_refuses sh d col.front bytes (seen t) col.contents got.0 col.taken col.contents_is going result wrong.0 ends c.in_default.not-Breaks (ap (λ (l : List ℕ). kernel_fault sh.form.n sh.form.p (text_in sh l)) (sym body_is) ∙ wrong.1) ∙ ap Err same

pub returns-in-Waits-clause-up : goal.returns-in-Waits-clause-up
returns-in-Waits-clause-up c =
    let sh = shape_of c.args.self.now in
    let d = c.args.d in
    let bytes = c.args.half.now in
    let t = c.collect-end.result.0 in
    let result = c.collect-end.result.1 in
    let got = c.collect-end.ensures.collected in
    let col = got.1 in
    let ends = got.2 in
    let going = seen_going t c.collect-end.ensures.some in
    let held = col.held c.collect-end.ensures.some in
    let v = c.args.marks.now.body in
    let many : v.len ≡ length v.items = search rules in
    let body_is : c.deref.result.now ≡ col.contents.body = c.deref.ensures.value ∙ with_same v.len c.collect-end.new.body v.items (c.collect-end.ensures.long.1 ∙ ap length c.deref_mut.ensures.value) many ∙ held.0 in
    let gate_is : c.from.result + c.from-in-Waits.result ≡ c.args.at + t.at = ap (λ n. n + c.from-in-Waits.result) c.from.ensures ∙ ap (λ n. c.args.at + n) c.from-in-Waits.ensures in
    let text_ok : IsText sh.form (text_in sh col.contents.body) = ap (λ (l : List ℕ). kernel_fault sh.form.n sh.form.p (text_in sh l)) (sym body_is) ∙ c.give.ensures.right c.if-not-give.false in
    let kernel = c.give.ensures.kernel c.if-not-give.false in
    let kernel_is : text_in sh col.contents.body ≡ text_of c.give.new.saved.kernel = ap (text_in sh) (sym body_is) ∙ kernel.1 in
    let number_is = held.2.number_is in
    let half_long = c.requires.half in
    let halved : c.args.self.now.half ≡ half_bytes sh = c.args.self.now.halved in
    record {
      front = col.front;
      tally = seen t;
      contents = col.contents;
      tally_is = col.taken.tally_is;
      contents_is = col.contents_is;
      going = going;
      at_is = col.taken.at_is;
      begins_is = front_begins sh d col.front bytes (seen t) got.0 col.taken going;
      sound = held.2;
      text_ok = text_ok;
      settles = λ x index large bytes_is. settles_waits sh d col.front bytes (seen t) col.contents got.0 col.taken col.contents_is going c.args.at (c.from.result + c.from-in-Waits.result) x result ends c.in-Waits.is gate_is index large bytes_is (half_long ∙ halved);
      index_is = refl;
      floor_is = c.least-marks.ensures ∙ least_both d t.number;
      end_is = refl;
      number_is = refl;
      logged_is = refl;
      decided_is = refl;
      body_is = sym c.deref.ensures.value ∙ body_is;
      log_is = ap (λ v. v.items) c.give.ensures.log ∙ held.1;
      kernel_is = kernel_is;
      kernel_ok = kernel.0;
      commit_is = sym number_is ∙ ap number_in kernel_is ∙ number_text c.give.new.saved.kernel;
      few = held.2.few;
      position_is = kernel.2;
    }

pub returns-clause-up : goal.returns-clause-up
returns-clause-up c =
    let sh = shape_of c.args.self.now in
    let d = c.args.d in
    let bytes = c.args.half.now in
    let t = c.collect-end.result.0 in
    let result = c.collect-end.result.1 in
    let got = c.collect-end.ensures.collected in
    let col = got.1 in
    let ends = got.2 in
    let going = seen_going t c.collect-end.ensures.some in
    let held = col.held c.collect-end.ensures.some in
    let v = c.args.marks.now.body in
    let many : v.len ≡ length v.items = search rules in
    let body_is : c.deref.result.now ≡ col.contents.body = c.deref.ensures.value ∙ with_same v.len c.collect-end.new.body v.items (c.collect-end.ensures.long.1 ∙ ap length c.deref_mut.ensures.value) many ∙ held.0 in
    let text_ok : IsText sh.form (text_in sh col.contents.body) = ap (λ (l : List ℕ). kernel_fault sh.form.n sh.form.p (text_in sh l)) (sym body_is) ∙ c.give.ensures.right c.if-not-give.false in
    let kernel = c.give.ensures.kernel c.if-not-give.false in
    let kernel_is : text_in sh col.contents.body ≡ text_of c.give.new.saved.kernel = ap (text_in sh) (sym body_is) ∙ kernel.1 in
    let number_is = held.2.number_is in
    record {
      front = col.front;
      tally = seen t;
      contents = col.contents;
      tally_is = col.taken.tally_is;
      contents_is = col.contents_is;
      going = going;
      at_is = col.taken.at_is;
      begins_is = front_begins sh d col.front bytes (seen t) got.0 col.taken going;
      sound = held.2;
      text_ok = text_ok;
      settles = λ x index large bytes_is. settles_none sh d col.front bytes (seen t) col.contents got.0 col.taken col.contents_is going c.args.at x result ends c.in_default-end.not-Waits c.in_default.not-Breaks bytes_is;
      index_is = refl;
      floor_is = c.least-marks.ensures ∙ least_both d t.number;
      end_is = refl;
      number_is = refl;
      logged_is = refl;
      decided_is = refl;
      body_is = sym c.deref.ensures.value ∙ body_is;
      log_is = ap (λ v. v.items) c.give.ensures.log ∙ held.1;
      kernel_is = kernel_is;
      kernel_ok = kernel.0;
      commit_is = sym number_is ∙ ap number_in kernel_is ∙ number_text c.give.new.saved.kernel;
      few = held.2.few;
      position_is = kernel.2;
    }
