use Rattle.swc_base_fixer_program.proofs.fix.fix_parens.Goals as goal

pub returns-in-Some-clause-moved : goal.returns-in-Some-clause-moved
returns-in-Some-clause-moved g c = simp c.in-Some.is c.fix_parens_with.ensures.moved

pub returns-in-Some-clause-unmoved : goal.returns-in-Some-clause-unmoved
returns-in-Some-clause-unmoved g c = λ h. simp c.in-Some.is (c.fix_parens_with.ensures.unmoved h)
