-- Replies to writes, as texts.
use Rattle.std.proofs.Common.{◌≡◌, List, Option, Some, None, refl, sym, ◌∙◌, ap}
use Rattle.std.specs.List.{flat_map}
use Rattle.std.proofs.lemmas.List.Folds.{flat_map-map}
use Rattle.sector_model.specs.declared.refusal.Refusal.{Refusal}
use Rattle.report.specs.Replies.{reply_text}
use Rattle.server.specs.Answers.{told_text}
use Rattle.server.specs.Ends.{replies_of, reply_of_write, reply_text_to_write, reply_to_write}
use Rattle.server.specs.Serving.{texts_of}

-- a reply to a write reads as that of its command
pub same_text : (reply : Option Refusal) → reply_text (reply_of_write reply) ≡ reply_text_to_write reply
same_text None = refl
same_text (Some refusal) = refl

pub texts_are : (replies : List (Option Refusal)) → flat_map reply_text_to_write replies ≡ texts_of (replies_of replies)
texts_are replies = sym (flat_map-map told_text reply_to_write replies)
