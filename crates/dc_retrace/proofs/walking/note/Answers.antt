use Rattle.std.proofs.Common.{◌∷◌, ◌&&◌, ◌||◌, if◌then◌else◌}
use Rattle.dc_guest.specs.Answers.{answer_of}
use Rattle.dc_proc.specs.Carried.{system}
use Rattle.dc_protocols.specs.Rules.{is_causal, is_joint}
use Rattle.dc_resume.specs.Suited.{save_in}
use Rattle.dc_retrace.proofs.Compared.{compared_before}
use Rattle.dc_retrace.proofs.Counted.{counted_same}
use Rattle.dc_retrace.proofs.walking.note.Goals as goal

pub returns : goal.returns
returns c = record {
  noted = λ images inputs answers x long words_is kernel_is seen_as local_is was.
      let S = system images inputs c.args.protocol in
      let a = answer_of c.args.applied.now.answer in
      let counted = c.count_act.ensures.counted S answers (save_in x) long
      (λ i. if is_joint c.args.protocol then seen_as.shows i else (seen_as.shows i || seen_as.sends i))
      (λ i. is_causal c.args.protocol && seen_as.sends i) local_is was.counted in record {
        counted = counted_same S c.args.p (a ∷ answers) (save_in x) c.count_act.new.self c.compare.new.trail c.compare.ensures.same counted;
        compared = c.compare.ensures.compared images inputs c.args.protocol (a ∷ answers) x long words_is kernel_is counted.count_is local_is
            (compared_before S c.args.p answers x a c.args.trail.now c.count_act.new.self c.count_act.ensures.same was.compared);
      };
}
