use Rattle.std.proofs.Common.{rules, length}
use Rattle.dc_media.specs.Devices.{of_words}
use Rattle.dc_armed.specs.Armed.{Armed}
use Rattle.dc_armed.proofs.Punctual.{punctual_in_row}
use Rattle.dc_armed.proofs.Rows.{awaited_in_row, called_in_row}
use Rattle.dc_armed.proofs.keeps.ArmedKeeps.store_words.Goals as goal

pub returns-clause-call : goal.returns-clause-call
returns-clause-call g c = let done = c.store_words-done in
    let old : Armed g.row.K.Denot = record { device = c.self.inside.device; plan = c.self.inside.plan } in
    let new : Armed g.row.K.Denot = record { device = done.new.self; plan = c.heeded.new.self } in
    let others = done.ensures.call.touches.others in record {
      touches = record {
        tells = search rules;
        others = search rules;
        continues = rw (← c.self.view_is) (record {
          later = search rules;
          stopped = search rules;
          failed = search rules;
          called = called_in_row (of_words g.K.Keeps) c.args.p (length c.args.words.now) done.result old new done.ensures.calls (λ q ne. (others q ne).calls_same);
          plan = search rules;
          awaited = awaited_in_row (of_words g.K.Keeps) c.args.p (length c.args.words.now) done.result old new done.ensures.calls (λ q ne. (others q ne).calls_same)
              (search rules) done.ensures.call.cause (search rules) (search rules);
          punctual = punctual_in_row (of_words g.K.Keeps) c.args.p (length c.args.words.now) done.result old new done.ensures.calls (λ q ne. (others q ne).calls_same)
              (search rules) done.ensures.call.cause (search rules) (search rules);
        });
      };
      extent = search rules;
      cause = search rules;
    }
