use Rattle.hexadecimal.proofs.SpelledOctetsReadBack.{spelled_back}
use Rattle.hexadecimal.proofs.line.HexLine.new.Goals as goal

pub returns-clause-reads_back : goal.returns-clause-reads_back
returns-clause-reads_back c = spelled_back
