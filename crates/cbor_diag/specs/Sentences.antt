-- The sentences of a reason.
use Rattle.std.specs.Prelude.{ℕ, List, codes}
use Rattle.cbor_head.specs.declared.reason.Reason.TheVariants.{Truncated, TooLong, Reserved, NoIndefinite, Float, BadSimple, StrayBreak, BadChunk, TooDeep, InvalidText, RepeatedKey, Trailing, CanonicalTooLong, NotShortest, Indefinite, KeyOrder, Read, Write, Memory, KeyKind}
use Rattle.cbor_head.specs.declared.reason.Reason.{Reason}

-- what a reason means
abbrev pub meaning : Reason → List ℕ
meaning Truncated = codes "The input ends within the item."
meaning TooLong = codes "The item is longer than the byte limit."
meaning Reserved = codes "No item begins with this byte: its low five bits are reserved."
meaning NoIndefinite = codes "An integer or a tag cannot have an indefinite length."
meaning Float = codes "A floating-point number begins here; floats are not accepted."
meaning BadSimple = codes "A simple value below 32 must not be encoded in two bytes."
meaning StrayBreak = codes "There is a break (ff) where an item must begin."
meaning BadChunk = codes "A chunk of a string must be a string of the same type and of definite length."
meaning TooDeep = codes "An array, map or tag is nested deeper than the limit."
meaning InvalidText = codes "From here on, a text string or a chunk of one is not UTF-8."
meaning RepeatedKey = codes "This key equals an earlier key of its map."
meaning Trailing = codes "The item is complete, and a byte follows it."
meaning CanonicalTooLong = codes "The canonical bytes are longer than the byte limit."
meaning NotShortest = codes "A number or a length is encoded in more bytes than necessary."
meaning Indefinite = codes "An item has an indefinite length, which canonical bytes never have."
meaning KeyOrder = codes "This key does not sort after the key before it."
meaning Read = codes "The rest of the input could not be read."
meaning Write = codes "The output accepted no more bytes."
meaning Memory = codes "Out of memory."
meaning KeyKind = codes "The key that begins here is neither an integer nor a text."

-- what to do about it
abbrev pub advice : Reason → List ℕ
advice Truncated = codes "Check whether the input was cut off, or a length is too large."
advice TooLong = codes "Raise the byte limit if such items are expected."
advice CanonicalTooLong = codes "Raise the byte limit if such items are expected."
advice Reserved = codes "The input may not be CBOR, or an earlier length may be wrong."
advice NoIndefinite = codes "The input may not be CBOR, or an earlier length may be wrong."
advice Float = codes "Encode it as an integer, as a text, or as a tag that contains integers."
advice BadSimple = codes "Encode 0 to 23 in one byte; the values 24 to 31 do not exist."
advice StrayBreak = codes "Check whether a length is wrong, or the value of a key is missing."
advice BadChunk = codes "End the string with a break (ff), or fix the type of the chunk."
advice TooDeep = codes "Raise the depth limit, which can be at most 1024."
advice InvalidText = codes "Encode the text in UTF-8, or encode its bytes as a byte string."
advice RepeatedKey = codes "Remove one of the two pairs."
advice Trailing = codes "Read several items as a sequence; decode hex text first."
advice NotShortest = codes "If the item is valid, canonicalise it."
advice Indefinite = codes "If the item is valid, canonicalise it."
advice KeyOrder = codes "If the item is valid, canonicalising it sorts its keys. Or choose the other order."
advice Read = codes "Try again."
advice Write = codes "Try again."
advice Memory = codes "Try again."
advice KeyKind = codes "Encode the key as an integer or a text, or allow keys of any kind."
