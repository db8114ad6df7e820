-- How long a message is, record by record, and which description is the first bad one. Assumes nothing.
use Rattle.std.proofs.Common.{◌≡◌, ℕ, ◌+◌, Bool, false, List, [], ◌∷◌, ◌++◌, length, refl, ◌∙◌, arith, length-append}
use Rattle.ndef.specs.Content.{Content}
use Rattle.composer.specs.Message.{encoded, encoded_length, none, message_from}
use Rattle.composer.proofs.Encoded.{encoded-length}

-- the bytes of these records together
abbrev pub amount : List Content → ℕ
amount [] = 0
amount (c ∷ cs) = encoded_length c + amount cs

pub message-length : (first : Bool) (cs : List Content) → length (message_from first cs) ≡ amount cs
message-length first [] = refl
message-length first (c ∷ cs) =
    let e = encoded first (none cs) c in
    length-append e (message_from false cs) ∙ (λ i. encoded-length first (none cs) c i + message-length false cs i)

pub amount_push : (cs : List Content) (c : Content) → amount (cs ++ c ∷ []) ≡ amount cs + encoded_length c
amount_push [] c = omega arith
amount_push (x ∷ cs) c = let e = amount_push cs c in omega arith
