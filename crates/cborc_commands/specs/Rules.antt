-- By which rules items are accepted.
use Rattle.cbor_head.specs.Prelude.{Rules, plain, strict}
use Rattle.cborc_words.specs.declared.request.Accepted.{Accepted, TheVariants.Valid, TheVariants.Canonical}

-- the rules by which items are accepted
abbrev pub rules_of : Accepted → Rules
rules_of Valid = plain
rules_of (Canonical order) = strict order
