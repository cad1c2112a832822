use Rattle.dc_savework.proofs.Leading.{led_work, told_all}
use Rattle.dc_savework.proofs.Wrote.{led_journal}
use Rattle.dc_savework.proofs.laws.runs_have_save_work.Goals as goal

pub returns-clause-save_work : goal.returns-clause-save_work
returns-clause-save_work g c = λ S schedule marks core sound free few only led whole. led_work S sound few schedule only marks core led whole free

pub returns-clause-by_acts : goal.returns-clause-by_acts
returns-clause-by_acts g c = λ S schedule marks core sound few only led whole. (told_all S sound few schedule only marks core led whole).by_acts

pub returns-clause-journal : goal.returns-clause-journal
returns-clause-journal g c = λ S schedule marks core sound few addressed only led whole. led_journal S sound few addressed schedule only marks core led whole
