use Rattle.swc_base_tables_settings.specs.Features.{added}
use Rattle.swc_base_tables_settings.proofs.Versions.{has_to}
use Rattle.swc_base_tables_settings.proofs.features.bits_of.Goals as goal

pub returns-in-Es3 : goal.returns-in-Es3
unfolding added
returns-in-Es3 c = rw c.in-Es3.is (has_to 0)

pub returns-in-Es5 : goal.returns-in-Es5
unfolding added
returns-in-Es5 c = rw c.in-Es5.is (has_to 1)

pub returns-in-Es2015 : goal.returns-in-Es2015
unfolding added
returns-in-Es2015 c = rw c.in-Es2015.is (has_to 2)

pub returns-in-Es2016 : goal.returns-in-Es2016
unfolding added
returns-in-Es2016 c = rw c.in-Es2016.is (has_to 3)

pub returns-in-Es2017 : goal.returns-in-Es2017
unfolding added
returns-in-Es2017 c = rw c.in-Es2017.is (has_to 4)

pub returns-in-Es2018 : goal.returns-in-Es2018
unfolding added
returns-in-Es2018 c = rw c.in-Es2018.is (has_to 5)

pub returns-in-Es2019 : goal.returns-in-Es2019
unfolding added
returns-in-Es2019 c = rw c.in-Es2019.is (has_to 6)

pub returns-in-Es2020 : goal.returns-in-Es2020
unfolding added
returns-in-Es2020 c = rw c.in-Es2020.is (has_to 7)

pub returns-in-Es2021 : goal.returns-in-Es2021
unfolding added
returns-in-Es2021 c = rw c.in-Es2021.is (has_to 8)

pub returns-in-Es2022 : goal.returns-in-Es2022
unfolding added
returns-in-Es2022 c = rw c.in-Es2022.is (has_to 9)

pub returns-in-EsNext : goal.returns-in-EsNext
unfolding added
returns-in-EsNext c = rw c.in-EsNext.is (has_to 10)
