use Rattle.dc_savework.proofs.Growing.{all_up, grown}
use Rattle.dc_savework.proofs.laws.journals_grow.Goals as goal

pub returns-clause-mark : goal.returns-clause-mark
returns-clause-mark g c = λ S schedule marks core sound few only led whole t entry m d turned live. (grown S sound few schedule only marks core led whole t entry m d turned live).mark_is

pub returns-clause-grows : goal.returns-clause-grows
returns-clause-grows g c = λ S schedule marks core sound few only led whole t entry m d turned live. (grown S sound few schedule only marks core led whole t entry m d turned live).lines

pub returns-clause-up : goal.returns-clause-up
returns-clause-up g c = λ S schedule marks core sound few only led whole p. all_up S sound few schedule only marks core led whole p
