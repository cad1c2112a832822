use Rattle.dc_resume.proofs.Deciding.{save_told, told_save}
use Rattle.dc_resume.proofs.laws.logs_make_saves.Goals as goal

pub returns-clause-save : goal.returns-clause-save
returns-clause-save g c = λ S p answers s rest is. told_save S p answers s rest is

pub returns-clause-saved : goal.returns-clause-saved
returns-clause-saved g c = λ S p answers s some ok. save_told S p answers s some ok
