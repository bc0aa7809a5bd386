-- The four bytes of each slot go behind those of the earlier ones.
use borrow.Author.Rules.{rules}
use Rattle.index_many.proofs.Looking.{looking_goes, looking}
use Rattle.index_many.proofs.look_ids.Goals as goal

pub slot_word-requires : goal.slot_word-requires
slot_word-requires c = search (looking, rules)

pub loop-i-preserved : goal.loop-i-preserved
loop-i-preserved c = looking_goes _ _ _ _ _ _ _ _ c.loop-i.invariant _ c.requires (search rules) (search rules) _ c.id_at.ensures.1 _ c.find_id-found.ensures _ _ _ _ c.slot_word.ensures c.met_one-met.ensures c.word_bytes.ensures.0 (search rules)

pub returns : goal.returns
returns c = search (looking, rules)
