-- The text `{}` is a document with no field.
use Rattle.std.proofs.Common.{◌≡◌, [], ◌∷◌, Ok, refl}
use Rattle.std.specs.Str.{is_utf8, chars}
use lib.Utf8.{encode}
use Rattle.json.specs.Lex.{lex, punctuate}
use Rattle.json.specs.Json.{value}
use Rattle.ccr_doc.specs.Sources.{document_of, value_of}

pub blank_document : document_of (123 ∷ 125 ∷ []) ≡ Ok []
unfolding value_of is_utf8 chars encode lex punctuate value
blank_document = refl
