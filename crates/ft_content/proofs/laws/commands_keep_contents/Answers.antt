-- the laws of each command
use Rattle.ft_content.proofs.ContentLemmas.{create_makes_content, insert_keeps_content, update_keeps_content, delete_keeps_content}
use Rattle.ft_content.proofs.laws.commands_keep_contents.Goals as goal

pub returns : goal.returns
returns c = record { create = create_makes_content; insert = insert_keeps_content; update = update_keeps_content; delete = delete_keeps_content }
