use Rattle.std.proofs.Common.{true, ap, ◌∙◌}
use Rattle.csv.specs.Reading.{builder_config, builder_is_flexible, builder_names_headers, builder_trim, with_flexible}
use Rattle.csv.specs.declared.reader.ReaderBuilder.{ReaderBuilder}
use Rattle.rail_csv.proofs.Records.{begins}
use Rattle.rail_csv.proofs.reading.records_in.Goals as goal

pub returns-clause-reads : goal.returns-clause-reads
returns-clause-reads c =
    let fr = c.from_reader.ensures in
    let it = c.into_byte_records.ensures in
    let set = c.flexible.ensures ∙ ap (λ (b : ReaderBuilder). with_flexible b true) c.has_headers.ensures in
    (begins c.into_byte_records.result c.from_reader.result c.args.bytes.now it.rdr (fr.flexible ∙ ap builder_is_flexible c.flexible.ensures) (fr.trim ∙ ap builder_trim set ∙ c.new.ensures.trim) (fr.has_headers ∙ ap builder_names_headers set)
    fr.headers (fr.config ∙ ap builder_config set ∙ c.new.ensures.config) fr.state fr.source it.left c.requires).reads

pub returns-clause-all : goal.returns-clause-all
returns-clause-all c =
    let fr = c.from_reader.ensures in
    let it = c.into_byte_records.ensures in
    let set = c.flexible.ensures ∙ ap (λ (b : ReaderBuilder). with_flexible b true) c.has_headers.ensures in
    (begins c.into_byte_records.result c.from_reader.result c.args.bytes.now it.rdr (fr.flexible ∙ ap builder_is_flexible c.flexible.ensures) (fr.trim ∙ ap builder_trim set ∙ c.new.ensures.trim) (fr.has_headers ∙ ap builder_names_headers set)
    fr.headers (fr.config ∙ ap builder_config set ∙ c.new.ensures.config) fr.state fr.source it.left c.requires).all
