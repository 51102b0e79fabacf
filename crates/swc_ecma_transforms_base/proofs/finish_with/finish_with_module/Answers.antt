use Rattle.swc_ecma_transforms_base.proofs.finish_with.finish_with_module.Goals as goal

-- src/finish_with.rt
pub returns-in-Some-clause-moved : goal.returns-in-Some-clause-moved
returns-in-Some-clause-moved g c = simp c.in-Some.is c.finish_module_by-in-Some.ensures.moved

pub returns-in-Some-clause-partly : goal.returns-in-Some-clause-partly
returns-in-Some-clause-partly g c = simp c.in-Some.is c.finish_module_by-in-Some.ensures.partly

pub returns-in-Some-clause-unmoved : goal.returns-in-Some-clause-unmoved
returns-in-Some-clause-unmoved g c = simp c.in-Some.is c.finish_module_by-in-Some.ensures.unmoved
