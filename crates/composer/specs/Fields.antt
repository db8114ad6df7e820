-- The code's fields of a record, as what the record says.
use Rattle.composer.specs.declared.fields.Fields.{Fields}
use Rattle.ndef.specs.Content.{Content}

abbrev pub content_of : Fields → Content
content_of f = record { format = f.format; kind = f.kind.now; id = f.id.now; payload = f.payload.now }
