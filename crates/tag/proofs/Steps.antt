-- A job is what a tag makes of its command; a turn in the front of a space is a turn in the space. Assumes nothing.
use Rattle.std.proofs.Common.{◌≡◌, ℕ, ◌≤◌, Bool, true, List, ◌++◌, length, take, drop, Some, None, Option, sym, ap, ◌∙◌, arith, rules, take-append-drop}
use Rattle.std.proofs.lemmas.Bool.{cond-true, eq-eqb}
use Rattle.std.proofs.lemmas.List.{places, same_lists}
use Rattle.request.specs.declared.command.Command.{Command}
use Rattle.space.specs.Space.{laid}
use Rattle.tag.specs.declared.body.Job.{Job}
use Rattle.tag.specs.Jobs.{Asks, does_job}
use Rattle.tag.specs.Means.{Takes, laid_by, longest}
use Rattle.tag.specs.Rules.{Turn, blocks, body_length, knows}
use Rattle.tag.specs.Tag.{TagModel}
use Rattle.tag.proofs.Keeps.{Short}

pub blocks_job : (t : TagModel) (of : Bool) (body : List ℕ) (c : Command) (unit : ℕ) (j : Job) → knows t.marks c ≡ true → t.memory.unit ≡ unit → Asks c body unit j → blocks t of body (Some c) ≡ does_job t of j
blocks_job t of body c unit j known same asks =
    let long : length body ≡ body_length c t.memory.unit = asks.long ∙ ap (body_length c) (sym same) in
    cond-true _ _ _ known ∙ cond-true _ _ _ (eq-eqb _ _ long) ∙ asks.does t of

-- an answer that lies in the front of the space
laid_front : (bs s : List ℕ) (n : ℕ) → length bs ≤ n → n ≤ length s → laid bs (take n s) ++ drop n s ≡ laid bs s
laid_front bs s n h k = same_lists _ _ (search (rules, places)) (λ i d l. grind (arith, places))

said_front : (says : Option (List ℕ)) (s : List ℕ) → Short says → longest ≤ length s → laid_by says (take longest s) ++ drop longest s ≡ laid_by says s
said_front None s h k = take-append-drop longest s
said_front (Some bs) s h k = laid_front bs s longest h k

pub takes_front : {t t' : TagModel} {turn : Turn} {s s' : List ℕ} {r : Option ℕ} → Short turn.says → longest ≤ length s → Takes t t' turn (take longest s) s' r → Takes t t' turn s (s' ++ drop longest s) r
takes_front {t} {t'} {turn} {s} {s'} {r} h k takes =
    record { after = takes.after; answer = takes.answer; left = ap (λ l. l ++ drop longest s) takes.left ∙ said_front turn.says s h k }
