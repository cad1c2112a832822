use Rattle.dc_savework.proofs.Few.{entry_short, journal_short, plain_entry}
use Rattle.dc_savework.proofs.Growing.{plain_all}
use Rattle.dc_savework.proofs.laws.lines_are_few.Goals as goal

pub returns-clause-of_entry : goal.returns-clause-of_entry
returns-clause-of_entry g c = λ S t core entry. entry_short S t core entry

pub returns-clause-of_acts : goal.returns-clause-of_acts
returns-clause-of_acts g c = λ S acts. journal_short S acts

pub returns-clause-sixteen : goal.returns-clause-sixteen
returns-clause-sixteen g c = λ S t core entry m d few turned i x within. (plain_entry S t core entry m d few turned i x within).0

pub returns-clause-members : goal.returns-clause-members
returns-clause-members g c = λ S t core entry m d few turned i x within. (plain_entry S t core entry m d few turned i x within).1

pub returns-clause-all_sixteen : goal.returns-clause-all_sixteen
returns-clause-all_sixteen g c = λ S schedule marks core sound few only led whole i x within. (plain_all S sound few schedule only marks core led whole i x within).0

pub returns-clause-all_members : goal.returns-clause-all_members
returns-clause-all_members g c = λ S schedule marks core sound few only led whole i x within. (plain_all S sound few schedule only marks core led whole i x within).1
