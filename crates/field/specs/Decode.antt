-- What an answer says: 00h and the data, 01h and an error's code, or nothing that is understood.
use Rattle.std.specs.Prelude.{◌≡◌, ℕ, ◌+◌, Bool, true, false, ◌&&◌, List, length, drop, Ok, Err, Result, ◌==◌, slice_index}
use Rattle.std.specs.Borrow.{Bor}
use Rattle.field.specs.declared.answer.AnswerRefusal.{AnswerRefusal}
use Rattle.field.specs.declared.answer.AnswerRefusal.TheVariants.{TagError, NotUnderstood}

abbrev pub number_of : AnswerRefusal → ℕ
number_of (TagError c) = 16
number_of NotUnderstood = 22

-- 00h and n bytes of data
abbrev pub is_data : List ℕ → ℕ → Bool
is_data a n = length a == n + 1 && slice_index a 0 == 0

-- 01h and a code
abbrev pub is_error : List ℕ → Bool
is_error a = length a == 2 && slice_index a 0 == 1

abbrev pub Decodes : List ℕ → ℕ → Result (Bor (List ℕ)) AnswerRefusal → Type 0
Decodes a n (Ok d) = (is_data a n ≡ true) × (d.now ≡ drop 1 a)
Decodes a n (Err (TagError c)) = (is_data a n ≡ false) × (is_error a ≡ true) × (c ≡ slice_index a 1)
Decodes a n (Err NotUnderstood) = (is_data a n ≡ false) × (is_error a ≡ false)
