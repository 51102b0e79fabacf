use Rattle.std.proofs.Common.{arith}
use Rattle.text_commented.proofs.Listed.{first_begins, follows_nowhere, none_follows}
use Rattle.text_commented.proofs.sites.Sites.first_begun.Goals as goal

pub returns-in_default : goal.returns-in_default
returns-in_default c = λ all are.
    let none = rw c.deref.ensures.value at c.in_default.ensures in
    none_follows c.args.self.now all c.args.limit are none

pub returns-then-place : goal.returns-then-place
returns-then-place c = λ all are.
    let first = rw c.deref.ensures.value at c.in-Some.ensures in
    follows_nowhere c.args.self.now all c.args.limit c.in-Some.place are first (omega arith)

pub returns : goal.returns
returns c = λ all are.
    let first = rw c.deref.ensures.value at c.in-Some.ensures in
    first_begins c.args.self.now all c.args.limit c.in-Some.place are first (omega arith)
