use Rattle.dom_session.proofs.read_only.read.Goals as goal

pub returns-in-Index-clause-own : goal.returns-in-Index-clause-own
returns-in-Index-clause-own c = rw c.in-Index.is c.index.ensures.own

pub returns-in-Length-clause-own : goal.returns-in-Length-clause-own
returns-in-Length-clause-own c = rw c.in-Length.is c.length.ensures.own

pub returns-in-Root-clause-own : goal.returns-in-Root-clause-own
returns-in-Root-clause-own c = rw c.in-Root.is c.root.ensures.own

pub returns-in-Range-clause-own : goal.returns-in-Range-clause-own
returns-in-Range-clause-own c = rw c.in-Range.is c.describe_range.ensures.own

pub returns-in-StaticRange-clause-own : goal.returns-in-StaticRange-clause-own
returns-in-StaticRange-clause-own c = rw c.in-StaticRange.is c.describe_static_range.ensures.own

pub returns-in-Iterator-clause-own : goal.returns-in-Iterator-clause-own
returns-in-Iterator-clause-own c = rw c.in-Iterator.is c.describe_iterator.ensures.own

pub returns-in-Walker-clause-own : goal.returns-in-Walker-clause-own
returns-in-Walker-clause-own c = rw c.in-Walker.is c.describe_walker.ensures.own
