use mathlib.Core.Path.{sym, ◌∙◌}
use Rattle.session_table.proofs.TableLaws.{table-length}
use Rattle.reply_session.proofs.begin_reply.Goals as goal

pub is_taken-requires : goal.is_taken-requires
is_taken-requires c = table-length c.args.table.now (sym c.is_lawful.ensures ∙ c.if-not-is_lawful.false)
