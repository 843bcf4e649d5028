-- What the definitions leave open, the first line feed and the order of the causes settle.
use Rattle.raw_reader.proofs.FaultsOnce.{fault_once}
use Rattle.raw_reader.proofs.law.first_fault_is_one.Goals as goal

pub returns : goal.returns
returns c types table bytes lines others error other first second = fault_once types table bytes lines others error other first second
