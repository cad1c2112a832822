use Rattle.std.proofs.Common.{◌≡◌, refl, subst, sym}
use Rattle.dc_model.proofs.Rising.{TurnsBelow}
use Rattle.dc_model.specs.Drawn.{Drawn}
use Rattle.dc_proc.specs.Processes.{reading_of}
use Rattle.dc_resume.proofs.Added.{well}
use Rattle.dc_resume.proofs.Alike.{suited_alike}
use Rattle.dc_resume.proofs.Halting.{are_suited}
use Rattle.dc_resume.proofs.Numbered.{numbered}
use Rattle.dc_resume.proofs.Resuming.{holds, stand}
use Rattle.dc_resume.proofs.Telling.{drawn_back, given_as}
use Rattle.dc_resume.proofs.laws.runs_resume.Goals as goal

pub returns-clause-holds : goal.returns-clause-holds
returns-clause-holds g c = λ images inputs protocol schedule turn acts lines d stores run drawn shown stored are. holds images inputs protocol acts d stores run stored are schedule turn lines drawn shown

pub returns-clause-stand : goal.returns-clause-stand
returns-clause-stand g c = λ images inputs protocol acts lines d stores run stored are. stand images inputs protocol acts d stores run stored are lines (λ e. e ≡ d) (λ p e r. r ≡ reading_of (stores p)) (λ p e r less decided left. left)

pub returns-clause-halted : goal.returns-clause-halted
returns-clause-halted g c = λ S schedule t core d readings now stands numbers reached. are_suited S schedule t core now numbers (λ e. e ≡ d) (λ p e r. r ≡ readings p) stands d refl readings (λ p less. refl) reached

pub returns-clause-alike : goal.returns-clause-alike
returns-clause-alike g c = λ S acts d one other stored others read. suited_alike S acts d one other stored others read

pub returns-clause-numbered : goal.returns-clause-numbered
returns-clause-numbered g c = λ S schedule start marks core sound now few alike led less. numbered S sound schedule start now few alike marks core led less

pub returns-clause-well : goal.returns-clause-well
returns-clause-well g c = λ S schedule start marks core sound now down led. well S schedule start marks core sound now down led

pub returns-clause-told : goal.returns-clause-told
returns-clause-told g c = λ G schedule turn acts w ran drawn below. let is = given_as G acts w ran in (
  is.given,
  is.reports,
  is.is_run,
  drawn_back G.count schedule turn is.given (subst (Drawn G.count schedule) (sym is.reports) drawn) (subst (TurnsBelow turn) (sym is.reports) below),
  is.world,
)
