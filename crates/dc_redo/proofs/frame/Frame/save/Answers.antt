use Rattle.std.proofs.Common.{◌≡◌, ◌∙◌, arith, length, subst, sym}
use Rattle.std.proofs.lemmas.List.{length-take-le}
use Rattle.std.proofs.lemmas.Result.{on_ok_weaker}
use Rattle.dc_kernel.proofs.Kernels.{right_from}
use Rattle.dc_checkpoint.specs.States.{Reading, number_in}
use Rattle.dc_redo.specs.Gathered.{gathered}
use Rattle.dc_redo.specs.Handles.{known_of, shape_of}
use Rattle.dc_redo.specs.Marking.{Fit}
use Rattle.dc_redo.specs.Saves.{GoesOn}
use Rattle.dc_redo.specs.Standing.{memory_in}
use Rattle.dc_redo.proofs.Saved.{body_is_right, body_is_state}
use Rattle.dc_redo.proofs.Stored.{stores_ready}
use Rattle.dc_redo.proofs.Writes.{writes_lines, writes_whole}
use Rattle.dc_redo.proofs.frame.Frame.save.Goals as goal

pub store_text-requires-clause-text : goal.store_text-requires-clause-text
store_text-requires-clause-text g c =
    let frame = c.args.self.now in
    (right_from frame.n frame.p c.args.kernel.now c.requires.text).long ∙ sym frame.layout

pub save_lines-requires-clause-body : goal.save_lines-requires-clause-body
save_lines-requires-clause-body g c =
    let frame = c.args.self.now in
    let sh = shape_of frame in
    let old = c.args.marks.now.body.items in
    let kernel = c.args.kernel.now in
    let long = c.requires.long in
    let lined = frame.lined in
    let m_long : length (memory_in sh old) ≡ sh.size = length-take-le sh.size old (omega (arith, long, lined)) in
    let k_long : length kernel ≡ sh.kernel = (right_from frame.n frame.p kernel c.requires.text).long ∙ sym frame.layout in
    body_is_right sh c.store_text.new.marks.body.items (memory_in sh old) kernel m_long k_long c.requires.text c.store_text.ensures.body

pub save_whole-requires-clause-body : goal.save_whole-requires-clause-body
save_whole-requires-clause-body g c =
    let frame = c.args.self.now in
    let sh = shape_of frame in
    let old = c.args.marks.now.body.items in
    let kernel = c.args.kernel.now in
    let long = c.requires.long in
    let lined = frame.lined in
    let m_long : length (memory_in sh old) ≡ sh.size = length-take-le sh.size old (omega (arith, long, lined)) in
    let k_long : length kernel ≡ sh.kernel = (right_from frame.n frame.p kernel c.requires.text).long ∙ sym frame.layout in
    body_is_right sh c.store_text.new.marks.body.items (memory_in sh old) kernel m_long k_long c.requires.text c.store_text.ensures.body

pub returns-then-from-bytes-clause-goes : goal.returns-then-from-bytes-clause-goes
returns-then-from-bytes-clause-goes g c =
    let frame = c.args.self.now in
    let sh = shape_of frame in
    let old = c.args.marks.now.body.items in
    let kernel = c.args.kernel.now in
    let long = c.requires.long in
    let lined = frame.lined in
    let m_long : length (memory_in sh old) ≡ sh.size = length-take-le sh.size old (omega (arith, long, lined)) in
    let k_long : length kernel ≡ sh.kernel = (right_from frame.n frame.p kernel c.requires.text).long ∙ sym frame.layout in
    let is = body_is_state sh c.store_text.new.marks.body.items (memory_in sh old) kernel m_long k_long c.store_text.ensures.body in
    on_ok_weaker c.save_lines.result (λ goes. subst (λ (s : Reading). GoesOn sh (known_of c.save_lines.new.marks) c.args.prepared (number_in kernel) s (g.D.Disks.told c.save_lines.new.dev frame.index)) is goes) c.save_lines.ensures.goes

pub returns-clause-goes : goal.returns-clause-goes
returns-clause-goes g c =
    let frame = c.args.self.now in
    let sh = shape_of frame in
    let old = c.args.marks.now.body.items in
    let kernel = c.args.kernel.now in
    let long = c.requires.long in
    let lined = frame.lined in
    let m_long : length (memory_in sh old) ≡ sh.size = length-take-le sh.size old (omega (arith, long, lined)) in
    let k_long : length kernel ≡ sh.kernel = (right_from frame.n frame.p kernel c.requires.text).long ∙ sym frame.layout in
    let is = body_is_state sh c.store_text.new.marks.body.items (memory_in sh old) kernel m_long k_long c.store_text.ensures.body in
    on_ok_weaker c.save_whole.result (λ goes. subst (λ (s : Reading). GoesOn sh (known_of c.save_whole.new.marks) c.args.prepared (number_in kernel) s (g.D.Disks.told c.save_whole.new.dev frame.index)) is goes) c.save_whole.ensures.goes

pub save_lines-requires-clause-ready : goal.save_lines-requires-clause-ready
save_lines-requires-clause-ready g c =
    stores_ready (shape_of c.args.self.now) (known_of c.args.marks.now) (known_of c.store_text.new.marks) c.store_text.ensures.stores (g.D.Disks.told c.args.dev.now c.args.self.now.index) c.requires.ready

pub save_whole-requires-clause-ready : goal.save_whole-requires-clause-ready
save_whole-requires-clause-ready g c =
    stores_ready (shape_of c.args.self.now) (known_of c.args.marks.now) (known_of c.store_text.new.marks) c.store_text.ensures.stores (g.D.Disks.told c.args.dev.now c.args.self.now.index) c.requires.ready

pub returns-then-from-bytes-clause-writes : goal.returns-then-from-bytes-clause-writes
returns-then-from-bytes-clause-writes g c =
    let frame = c.args.self.now in
    let m = known_of c.store_text.new.marks in
    let halved = frame.halved in
    let test = c.if-from-bytes.true in
    let from = c.from.ensures in
    let bytes = c.lines_bytes-bytes.ensures in
    let count = c.count-count.ensures m.body in
    let left = c.left.ensures in
    let left_is = c.from-2.ensures in
    let half = c.from-3.ensures in
    let fits : Fit (shape_of frame) m.end (gathered 0 m.touched m.body) = omega (arith, halved, test, from, bytes, count, left, left_is, half) in
    on_ok_weaker c.save_lines.result (writes_lines (shape_of frame) (known_of c.args.marks.now) m c.args.prepared c.args.kernel.now (g.D.Disks.told c.args.dev.now frame.index) (g.D.Disks.told c.save_lines.new.dev frame.index)
    c.store_text.ensures.stores c.store_text.ensures.body c.store_text.ensures.marked fits) c.save_lines.ensures.adds

pub returns-clause-writes : goal.returns-clause-writes
returns-clause-writes g c =
    let frame = c.args.self.now in
    let m = known_of c.store_text.new.marks in
    let halved = frame.halved in
    let test = c.if-from-bytes.false in
    let from = c.from.ensures in
    let bytes = c.lines_bytes-bytes.ensures in
    let count = c.count-count.ensures m.body in
    let left = c.left.ensures in
    let left_is = c.from-2.ensures in
    let half = c.from-3.ensures in
    on_ok_weaker c.save_whole.result (writes_whole (shape_of frame) (known_of c.args.marks.now) m c.args.prepared c.args.kernel.now (g.D.Disks.told c.args.dev.now frame.index) (g.D.Disks.told c.save_whole.new.dev frame.index)
    c.store_text.ensures.stores c.store_text.ensures.body c.store_text.ensures.marked (λ (fits : Fit (shape_of frame) m.end (gathered 0 m.touched m.body)). omega (arith, halved, test, from, bytes, count, left, left_is, half, fits))) c.save_whole.ensures.turns
