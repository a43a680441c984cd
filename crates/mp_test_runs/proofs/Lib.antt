mod GivingRows
