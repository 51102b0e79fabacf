use Rattle.swc_ecma_transforms_base_chains.proofs.finish.finish_script.Goals as goal

-- src/finish.rt
pub returns-in-Some-clause-moved : goal.returns-in-Some-clause-moved
returns-in-Some-clause-moved g c = simp c.in-Some.is c.finish_script_with-in-Some.ensures.moved

pub returns-in-Some-clause-partly : goal.returns-in-Some-clause-partly
returns-in-Some-clause-partly g c = simp c.in-Some.is c.finish_script_with-in-Some.ensures.partly

pub returns-in-Some-clause-unmoved : goal.returns-in-Some-clause-unmoved
returns-in-Some-clause-unmoved g c = simp c.in-Some.is c.finish_script_with-in-Some.ensures.unmoved
