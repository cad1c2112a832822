use Rattle.std.proofs.Common.{◌≡◌, length, arith, rules, refl, ◌∙◌}
use Rattle.dc_kernel.specs.Layout.{kernel_words}
use Rattle.dc_kernel.proofs.Kernels.{right_from}
use Rattle.dc_checkpoint.specs.States.{form_in}
use Rattle.dc_redo.proofs.Stored.{indexed}
use Rattle.dc_redo.proofs.frame.Frame.new.Goals as goal

pub overflow_cast-kernel_words : goal.overflow_cast-kernel_words
overflow_cast-kernel_words c =
    let form = c.requires.form in
    let ks = c.args.kernel.items in
    let n = (form_in ks).n in
    let long : length ks ≡ kernel_words n = (right_from n (form_in ks).p ks c.requires.text).long in
    let few = form.few in
    let pages = c.requires.pages in
    omega (arith, long, few, pages.1, pages.2)

pub overflow_add-result : goal.overflow_add-result
overflow_add-result c =
    let form = c.requires.form in
    let ks = c.args.kernel.items in
    let n = (form_in ks).n in
    let long : length ks ≡ kernel_words n = (right_from n (form_in ks).p ks c.requires.text).long in
    let few = form.few in
    let pages = c.requires.pages in
    omega (arith, long, few, pages.1, pages.2)

pub overflow_add-result-2 : goal.overflow_add-result-2
overflow_add-result-2 c =
    let form = c.requires.form in
    let ks = c.args.kernel.items in
    let n = (form_in ks).n in
    let long : length ks ≡ kernel_words n = (right_from n (form_in ks).p ks c.requires.text).long in
    let few = form.few in
    let pages = c.requires.pages in
    omega (arith, long, few, pages.1, pages.2)

pub whole_bytes-requires : goal.whole_bytes-requires
whole_bytes-requires c =
    let form = c.requires.form in
    let ks = c.args.kernel.items in
    let n = (form_in ks).n in
    let long : length ks ≡ kernel_words n = (right_from n (form_in ks).p ks c.requires.text).long in
    let few = form.few in
    let pages = c.requires.pages in
    omega (arith, long, few, pages.1, pages.2)

pub overflow_add-result-3 : goal.overflow_add-result-3
overflow_add-result-3 c =
    let form = c.requires.form in
    let ks = c.args.kernel.items in
    let n = (form_in ks).n in
    let long : length ks ≡ kernel_words n = (right_from n (form_in ks).p ks c.requires.text).long in
    let few = form.few in
    let pages = c.requires.pages in
    let whole = c.whole_bytes.ensures in
    let left = c.left_bytes.ensures in
    omega (arith, long, few, pages.1, pages.2, whole, left)

pub overflow_mul-result : goal.overflow_mul-result
overflow_mul-result c =
    let form = c.requires.form in
    let ks = c.args.kernel.items in
    let n = (form_in ks).n in
    let long : length ks ≡ kernel_words n = (right_from n (form_in ks).p ks c.requires.text).long in
    let few = form.few in
    let pages = c.requires.pages in
    let whole = c.whole_bytes.ensures in
    let left = c.left_bytes.ensures in
    omega (arith, long, few, pages.1, pages.2, whole, left)

pub invariant_of-result : goal.invariant_of-result
invariant_of-result c =
    let form = c.requires.form in
    let ks = c.args.kernel.items in
    let n = (form_in ks).n in
    let long : length ks ≡ kernel_words n = (right_from n (form_in ks).p ks c.requires.text).long in
    let few = form.few in
    let pages = c.requires.pages in
    let n_is : c.index-n.result.now ≡ n = indexed ks 1 c.index-n.result.now (omega (arith, long)) c.index-n.ensures in
    let p_is : c.index-p.result.now ≡ (form_in ks).p = indexed ks 2 c.index-p.result.now (omega (arith, long)) c.index-p.ensures in
    record {
      formed = rw (n_is, p_is) form;
      shaped = record { whole = omega (arith, pages.1); some = omega (arith, long); few = omega (arith, long, few, pages.1, pages.2) };
      lined = omega arith;
      halved = omega (arith, c.whole_bytes.ensures, c.left_bytes.ensures);
      text = rw (n_is, p_is) c.requires.text;
      numbered = c.requires.number;
      whole = search rules;
      long = search rules;
      layout = rw n_is ((let same : c.len-kernel_words.result ≡ length ks = search rules in same) ∙ long);
      events = refl;
    }
