use Rattle.packed.proofs.Bytes.{word_back, bytes_again}
use Rattle.packed.proofs.Fields.{fields_back, fields_make}
use Rattle.packed.proofs.packing_laws.Goals as goal

pub returns : goal.returns
returns c = record { word = word_back; bytes = bytes_again; found = fields_back; made = fields_make }
