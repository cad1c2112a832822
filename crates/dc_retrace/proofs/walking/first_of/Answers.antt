use Rattle.std.proofs.Common.{[], refl}
use Rattle.dc_proc.specs.Carried.{system}
use Rattle.dc_resume.specs.Suited.{save_in}
use Rattle.dc_retrace.proofs.Compared.{compared_none}
use Rattle.dc_retrace.proofs.Counted.{counted_same}
use Rattle.dc_retrace.proofs.walking.first_of.Goals as goal

pub returns : goal.returns
returns c = record {
  noted = λ images inputs protocol x long words_is kernel_is log_is here.
      let S = system images inputs protocol in
      let counted = c.in_ok-trail.ensures.counted S c.args.p x kernel_is log_is in record {
        counted = counted_same S c.args.p [] (save_in x) c.in_ok-trail.trail c.compare.new.trail c.compare.ensures.same counted;
        compared = c.compare.ensures.compared images inputs protocol [] x long words_is kernel_is counted.count_is here (compared_none S c.args.p [] x c.in_ok-trail.trail refl c.in_ok-trail.ensures.same);
      };
}
