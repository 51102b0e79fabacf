use Rattle.swc_base_fixer_unparen.proofs.pass.remove_parens.Goals as goal

pub returns-in-Some-clause-moved : goal.returns-in-Some-clause-moved
returns-in-Some-clause-moved g c = simp c.in-Some.is c.remove_parens_with.ensures.moved

pub returns-in-Some-clause-unmoved : goal.returns-in-Some-clause-unmoved
returns-in-Some-clause-unmoved g c = λ h. simp c.in-Some.is (c.remove_parens_with.ensures.unmoved h)
