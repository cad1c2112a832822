use Rattle.std.proofs.Common.{rules, ◌≡◌, ◌≢◌, ◌≤◌, ℕ, Some}
use Rattle.dc_media.specs.Devices.{of_words}
use Rattle.dc_armed.specs.Armed.{Armed}
use Rattle.dc_armed.specs.Stops.{Waits, after_answer, came_to, capped, due, one_fewer, waiting_for}
use Rattle.dc_armed.proofs.Punctual.{punctual_due}
use Rattle.dc_armed.proofs.keeps.ArmedKeeps.store.Goals as goal

pub returns-in-Some-clause-call : goal.returns-in-Some-clause-call
returns-in-Some-clause-call g c =
    let old : Armed g.row.K.Denot = record { device = c.self.inside.device; plan = c.self.inside.plan } in
    let new : Armed g.row.K.Denot = record { device = c.torn_store-done.new.keeps; plan = c.comes.new.self } in
    let is : due old.plan c.args.p ≡ Some c.in-Some.tear = search rules in
    let waits : Waits c.args.p (after_answer c.comes.result (one_fewer (waiting_for old.plan c.args.p))) old.plan new.plan = search rules in
    let called : (q : ℕ) → capped (g.K.Keeps.calls old.device q) ≤ capped (g.K.Keeps.calls new.device q) = search rules in
    let off : (q : ℕ) → q ≢ c.args.p → came_to new.plan q ≡ came_to old.plan q = search rules in record {
      touches = record {
        tells = search rules;
        others = search rules;
        continues = rw (← c.self.view_is) (record {
          later = search rules;
          stopped = search rules;
          failed = search rules;
          called = called;
          plan = search rules;
          awaited = search rules;
          punctual = punctual_due (of_words g.K.Keeps) c.args.p c.in-Some.tear c.comes.result old new is waits called off;
        });
      };
      extent = search rules;
      cause = search rules;
    }
