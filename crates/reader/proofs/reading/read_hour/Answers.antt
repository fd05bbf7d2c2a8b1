use Rattle.reader.proofs.Records.{records_outcome}
use Rattle.reader.proofs.reading.read_hour.Goals as goal

pub returns-in-Ok-clause-records : goal.returns-in-Ok-clause-records
returns-in-Ok-clause-records c = λ rs f. records_outcome rs c.args.file.now f
