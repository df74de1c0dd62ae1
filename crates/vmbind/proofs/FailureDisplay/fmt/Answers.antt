use Rattle.vmbind.proofs.FailureDisplay.fmt.Goals as goal

pub returns-in-Read-clause-writes : goal.returns-in-Read-clause-writes
returns-in-Read-clause-writes g c = rw c.in-Read.is c.writeln.ensures.writes

pub returns-in-Write-clause-writes : goal.returns-in-Write-clause-writes
returns-in-Write-clause-writes g c = rw c.in-Write.is c.writeln-in-Write.ensures.writes

pub returns-in-TooLong-clause-writes : goal.returns-in-TooLong-clause-writes
returns-in-TooLong-clause-writes g c = rw c.in-TooLong.is c.writeln-in-TooLong.ensures.writes
