use Rattle.gedcom_line.proofs.Exact.{answers_line, answers_every, answers_blank, answers_fault, answers_first}
use Rattle.gedcom_line.proofs.line.read.read_line.Goals as goal

pub returns-clause-line : goal.returns-clause-line
returns-clause-line c = answers_line c.args.bytes.now c.read.result c.requires c.read.ensures

pub returns-clause-every : goal.returns-clause-every
returns-clause-every c = answers_every c.args.bytes.now c.read.result c.read.ensures

pub returns-clause-blank : goal.returns-clause-blank
returns-clause-blank c = answers_blank c.args.bytes.now c.read.result c.read.ensures

pub returns-clause-fault : goal.returns-clause-fault
returns-clause-fault c = answers_fault c.args.bytes.now c.read.result c.requires c.read.ensures

pub returns-clause-first : goal.returns-clause-first
returns-clause-first c = answers_first c.args.bytes.now c.read.result c.read.ensures
